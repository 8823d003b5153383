-- `validation::tests::amounts_test` meets its contract. Assumes nothing.
use mathlib.Core.Path.{sym}
use native.Mathlib.Omega.{arith}
use Rattle.problem.proofs.TestParts.{amounts_supply, amounts_demand, amounts_pass, above_within}
use Rattle.validation.proofs.tests.amounts_test.Goals as goal

pub overflow_add-k : goal.overflow_add-k
overflow_add-k c = omega (arith, above_within 4000 _ _ (sym c.in-Some.ensures))

pub returns-in-Some : goal.returns-in-Some
returns-in-Some c = rw (c.at.ensures.cause, c.at.ensures.place) (sym (amounts_supply _ _ _ (sym c.in-Some.ensures)))

pub overflow_add-supplies : goal.overflow_add-supplies
overflow_add-supplies c = omega (arith, above_within 4000 _ _ (sym c.in-Some-first_above.ensures))

pub overflow_add-supplies-in-Some-first_above : goal.overflow_add-supplies-in-Some-first_above
overflow_add-supplies-in-Some-first_above c = omega (arith, above_within 4000 _ _ (sym c.in-Some-first_above.ensures))

pub returns-in-Some-first_above : goal.returns-in-Some-first_above
returns-in-Some-first_above c =
    let e = c.at-in-Some-first_above.ensures in
    rw (e.cause, e.place) (sym (amounts_demand _ _ _ (sym c.in_default.ensures) (sym c.in-Some-first_above.ensures)))

pub returns : goal.returns
returns c = sym (amounts_pass _ _ (sym c.in_default.ensures) (sym c.in_default-first_above.ensures))
