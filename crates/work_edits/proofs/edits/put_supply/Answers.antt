-- `work_edits::edits::put_supply` meets its contract. Assumes nothing.
use mathlib.Core.Logic.{inl, inr}
use native.Mathlib.Omega.{arith}
use Rattle.work_store.proofs.StateAfterWrites.{within}
use Rattle.work_store.proofs.CallRefusals.{refuses, works, out_low, out_high}
use Rattle.work_store.proofs.CaseCells.{room_0}
use Rattle.work_store.proofs.EditLaws.{first_writes, other_writes}
use Rattle.work_store.proofs.EditRefusals.{supply_24, supply_4, supply_23, supply_none}
use Rattle.work_edits.proofs.edits.put_supply.Goals as goal

pub returns-then-i-lt1 : goal.returns-then-i-lt1
returns-then-i-lt1 c =
    rw (c.at.ensures.cause, c.at.ensures.place)
    (refuses _ _ _ _ _ (elim c.then-i-lt1.either [ inl h ↦ supply_24 _ _ _ c.requires _ _ (out_low _ _ h) | inr h ↦ supply_24 _ _ _ c.requires _ _ (out_high _ _ h.1) ]))

pub returns-then-value-gt4000 : goal.returns-then-value-gt4000
returns-then-value-gt4000 c =
    let e = c.at-then-value-gt4000.ensures in
    rw (e.cause, e.place) (refuses _ _ _ _ _ (supply_4 _ _ _ c.requires _ _ (within _ _ c.if-i-lt1.false c.if-layout-i.false) c.if-value-gt4000.true))

pub least_run-requires : goal.least_run-requires
least_run-requires c = omega (arith, room_0 _ _ _ c.requires)

pub returns-then-value-least_run : goal.returns-then-value-least_run
returns-then-value-least_run c =
    let e = c.at-then-value-least_run.ensures in
    rw (e.cause, e.place) (refuses _ _ _ _ _ (supply_23 _ _ _ c.requires _ _ (within _ _ c.if-i-lt1.false c.if-layout-i.false) c.if-value-gt4000.false _ c.least_run.ensures c.if-value-least_run.true))

pub returns-then-i-eq1 : goal.returns-then-i-eq1
returns-then-i-eq1 c =
    works _ _ _ _ _
    (supply_none _ _ _ c.requires _ _ (within _ _ c.if-i-lt1.false c.if-layout-i.false) c.if-value-gt4000.false _ c.least_run.ensures c.if-value-least_run.false)
    (first_writes _ _ _ _ _ c.if-i-eq1.true _ c.put_first.ensures)

pub bounds-store-at : goal.bounds-store-at
bounds-store-at c = omega (arith, room_0 _ _ _ c.requires, c.if-layout-i.false)

pub returns : goal.returns
returns c =
    works _ _ _ _ _
    (supply_none _ _ _ c.requires _ _ (within _ _ c.if-i-lt1.false c.if-layout-i.false) c.if-value-gt4000.false _ c.least_run.ensures c.if-value-least_run.false)
    (other_writes _ _ _ _ _ c.if-i-eq1.false)
