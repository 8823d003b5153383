-- `validation::tests::entries_test` meets its contract. Assumes nothing.
use mathlib.Core.Path.{sym}
use native.Mathlib.Omega.{arith}
use Rattle.problem.proofs.TestParts.{entries_high, entries_pass, high_within}
use Rattle.validation.proofs.tests.entries_test.Goals as goal

pub overflow_add-lo : goal.overflow_add-lo
overflow_add-lo c =
    let h = high_within c.args.table.now c.args.lo c.args.hi c.requires.order c.requires.long _ (sym c.in-Some.ensures) in
    omega (arith, c.requires.long)

pub returns-in-Some : goal.returns-in-Some
returns-in-Some c =
    rw (c.at.ensures.cause, c.at.ensures.place) (sym (entries_high _ _ _ c.requires.order c.requires.long _ (sym c.in-Some.ensures)))

pub returns : goal.returns
returns c = sym (entries_pass _ _ _ c.requires.order c.requires.long (sym c.in_default.ensures))
