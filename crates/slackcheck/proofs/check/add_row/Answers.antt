-- `slackcheck::check::add_row` meets its contract. Assumes nothing.
use Rattle.std.proofs.Common.{arith}
use Rattle.slackcheck.proofs.Checking.{add_start, add_fits, add_next, add_end}
use Rattle.slackcheck.proofs.check.add_row.Goals as goal

pub loop-j-init : goal.loop-j-init
loop-j-init c = add_start c.requires.got

pub overflow_add-got-in-loop-j : goal.overflow_add-got-in-loop-j
overflow_add-got-in-loop-j c =
    omega (arith, add_fits c.requires.few (omega arith) c.loop-j.invariant c.loop-j-test.true)

pub loop-j-preserved : goal.loop-j-preserved
loop-j-preserved c = add_next c.requires.few.terminals c.loop-j.invariant c.loop-j-test.true

pub returns : goal.returns
returns c = add_end c.loop-j.invariant c.loop-j-test.false
