-- `work_edits::edits::put_demand` meets its contract. Assumes nothing.
use mathlib.Core.Logic.{inl, inr}
use native.Mathlib.Omega.{arith}
use Prim.Native.Nat.{◌-◌}
use Rattle.work_store.specs.Store.{demands_at, writes}
use Rattle.work_store.proofs.StateAfterWrites.{within}
use Rattle.work_store.proofs.CallRefusals.{refuses, works, out_low, out_high}
use Rattle.work_store.proofs.CaseCells.{room_0}
use Rattle.work_store.proofs.EditLaws.{placed}
use Rattle.work_store.proofs.EditRefusals.{demand_24, demand_4, demand_none}
use Rattle.work_edits.proofs.edits.put_demand.Goals as goal

pub returns-then-j-lt1 : goal.returns-then-j-lt1
returns-then-j-lt1 c =
    rw (c.at.ensures.cause, c.at.ensures.place)
    (refuses _ _ _ _ _ (elim c.then-j-lt1.either [ inl h ↦ demand_24 _ _ _ _ _ (out_low _ _ h) | inr h ↦ demand_24 _ _ _ _ _ (out_high _ _ h.1) ]))

pub returns-then-value-gt4000 : goal.returns-then-value-gt4000
returns-then-value-gt4000 c =
    let e = c.at-then-value-gt4000.ensures in
    rw (e.cause, e.place) (refuses _ _ _ _ _ (demand_4 _ _ _ _ _ (within _ _ c.if-j-lt1.false c.if-layout-j.false) c.if-value-gt4000.true))

pub overflow_add-at : goal.overflow_add-at
overflow_add-at c =
    omega (arith)

pub offset_bounds-store-at : goal.offset_bounds-store-at
offset_bounds-store-at c =
    omega (arith)

pub bounds-store-at : goal.bounds-store-at
bounds-store-at c = omega (arith, room_0 _ _ _ c.requires, c.demands_at.ensures, c.if-layout-j.false)

pub returns : goal.returns
unfolding writes
returns c =
    works _ _ _ _ _ (demand_none _ _ _ _ _ (within _ _ c.if-j-lt1.false c.if-layout-j.false) c.if-value-gt4000.false)
    (placed c.args.store.now c.demands_at.result (c.args.j - 1) (demands_at c.args.layout.m) _ c.demands_at.ensures)
