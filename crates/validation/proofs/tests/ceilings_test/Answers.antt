-- `validation::tests::ceilings_test` meets its contract. Assumes nothing.
use mathlib.Core.Path.{sym}
use native.Mathlib.Omega.{arith}
use Rattle.problem.proofs.TestParts.{ceilings_length, ceilings_high, ceilings_pass, above_within}
use Rattle.validation.proofs.tests.ceilings_test.Goals as goal

pub returns-then-ceilings-lanes : goal.returns-then-ceilings-lanes
returns-then-ceilings-lanes c = rw (c.at.ensures.cause, c.at.ensures.place) (sym (ceilings_length _ _ c.if-ceilings-lanes.true))

pub overflow_add-k : goal.overflow_add-k
overflow_add-k c = omega (arith, above_within 4000 _ _ (sym c.in-Some.ensures))

pub returns-in-Some : goal.returns-in-Some
returns-in-Some c =
    let e = c.at-in-Some.ensures in rw (e.cause, e.place) (sym (ceilings_high _ _ c.if-ceilings-lanes.false _ (sym c.in-Some.ensures)))

pub returns : goal.returns
returns c = sym (ceilings_pass _ _ c.if-ceilings-lanes.false (sym c.in_default.ensures))
