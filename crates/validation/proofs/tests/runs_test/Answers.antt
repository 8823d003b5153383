-- `validation::tests::runs_test` meets its contract. Assumes nothing.
use mathlib.Core.Path.{sym}
use Rattle.problem.proofs.TestParts.{runs_first, runs_second, runs_pass}
use Rattle.validation.proofs.tests.runs_test.Goals as goal

pub returns-then-supplies-run1 : goal.returns-then-supplies-run1
returns-then-supplies-run1 c = rw (c.at.ensures.cause, c.at.ensures.place) (sym (runs_first _ _ _ c.if-supplies-run1.true))

pub returns-then-supplies-run2 : goal.returns-then-supplies-run2
returns-then-supplies-run2 c =
    let e = c.at-then-supplies-run2.ensures in rw (e.cause, e.place) (sym (runs_second _ _ _ c.if-supplies-run1.false c.if-supplies-run2.true))

pub returns : goal.returns
returns c = sym (runs_pass _ _ _ c.if-supplies-run1.false c.if-supplies-run2.false)
