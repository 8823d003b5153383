-- `slackcheck::check::column_sums` meets its contract. Assumes nothing.
use Rattle.std.proofs.Common.{◌≡◌, arith}
use Rattle.slackcheck.proofs.Checking.{few_fewer, got_none}
use Rattle.slackcheck.proofs.check.column_sums.Goals as goal

pub loop-i-init : goal.loop-i-init
loop-i-init c = (omega arith, got_none (omega arith))

pub add_row-requires : goal.add_row-requires
add_row-requires c = record { few = few_fewer c.requires (omega (arith, c.loop-i-test.true)); got = c.loop-i.invariant.1 }

pub loop-i-preserved : goal.loop-i-preserved
loop-i-preserved c = (omega (arith, c.loop-i-test.true), c.add_row.ensures)

pub returns : goal.returns
returns c = let z : c.loop-i.i ≡ c.args.m = omega (arith, c.loop-i-test.false, c.loop-i.invariant.0) in rw (← z) c.loop-i.invariant.1
