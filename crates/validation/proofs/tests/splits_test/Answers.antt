-- `validation::tests::splits_test` meets its contract. Assumes nothing.
use mathlib.Core.Path.{sym}
use mathlib.Core.Logic.{inl, inr}
use Rattle.std.proofs.lemmas.Result.{err_from_is_err_and}
use Rattle.problem.proofs.TestParts.{splits_entry, splits_plan, splits_split, splits_freight, splits_pass}
use Rattle.validation.proofs.tests.splits_test.Goals as goal

pub returns-in_err-entries_test : goal.returns-in_err-entries_test
returns-in_err-entries_test c =
    let p = err_from_is_err_and c.from_residual.result c.from_residual.ensures.1 in
    rw (p.1, p.2) (sym (splits_entry _ _ _ _ _ _ _ _ (sym c.in_err-entries_test.ensures)))

pub returns-then-plan-lanes : goal.returns-then-plan-lanes
returns-then-plan-lanes c =
    let past = sym c.in_ok-entries_test.ensures in
    rw (c.at.ensures.cause, c.at.ensures.place) (elim c.then-plan-lanes.either [
      | inl a ↦ sym (splits_plan _ _ _ _ _ _ _ past a)
      | inr (inl b) ↦ sym (splits_split _ _ _ _ _ _ _ past b.1)
      | inr (inr d) ↦ sym (splits_freight _ _ _ _ _ _ _ past d.2)
    ])

pub returns : goal.returns
returns c = sym (splits_pass _ _ _ _ _ _ _ (sym c.in_ok-entries_test.ensures) c.if-plan-lanes.false c.if-splits-count.false c.if-freights-count.false)
