-- `work_edits::edits::put_cost` meets its contract. Assumes nothing.
use mathlib.Core.Path.{◌≡◌, sym, ap, ◌∙◌}
use mathlib.Core.Logic.{inl, inr}
use native.Mathlib.Omega.{arith}
use mir.Syntax.{w64}
use mir.Val.{to_z, of_z}
use mir.ValLaws.{to_z-of_z}
use Rattle.problem.specs.Range.{outside, raised_of}
use Prim.Native.Nat.{◌+◌, ◌-◌, ◌*◌}
use Rattle.work_store.specs.Store.{costs_at, writes}
use Rattle.work_store.proofs.StateAfterWrites.{within}
use Rattle.work_store.proofs.CallRefusals.{refuses, works, out_low, out_high}
use Rattle.work_store.proofs.CaseCells.{room_0, lanes_few}
use Rattle.work_store.proofs.CostLaws.{cost_placed}
use Rattle.work_store.proofs.EditLaws.{row_few, lane_in}
use Rattle.work_store.proofs.EditRefusals.{cost_24_source, cost_24_terminal, cost_5, cost_none}
use Rattle.work_edits.proofs.edits.put_cost.Goals.{Start}
use Rattle.work_edits.proofs.edits.put_cost.Goals as goal

-- a signed number, as it is handed on
same : (s : Start) → to_z w64 (of_z w64 s.args.value) ≡ s.args.value
same s = to_z-of_z w64 s.args.value s.ranges.value

pub returns-then-i-lt1 : goal.returns-then-i-lt1
returns-then-i-lt1 c =
    rw (c.at.ensures.cause, c.at.ensures.place)
    (refuses _ _ _ _ _ (elim c.then-i-lt1.either [
      | inl h ↦ cost_24_source _ _ _ _ _ _ (out_low _ _ h)
      | inr (inl h) ↦ cost_24_source _ _ _ _ _ _ (out_high _ _ h.1)
      | inr (inr (inl h)) ↦ cost_24_terminal _ _ _ _ _ _ (out_low _ _ h.2)
      | inr (inr (inr h)) ↦ cost_24_terminal _ _ _ _ _ _ (out_high _ _ h.3)
    ]))

pub overflow_mul-row : goal.overflow_mul-row
overflow_mul-row c =
    omega (arith, room_0 _ _ _ c.requires, lanes_few _ _ _ c.requires, c.requires.few, c.requires.many, row_few _ _ _ c.requires c.args.i c.if-layout-i.false)

pub overflow_add-row : goal.overflow_add-row
overflow_add-row c =
    omega (arith, room_0 _ _ _ c.requires, lanes_few _ _ _ c.requires, c.requires.few, c.requires.many, row_few _ _ _ c.requires c.args.i c.if-layout-i.false)

pub returns-then-out_of_range : goal.returns-then-out_of_range
returns-then-out_of_range c =
    let e = c.at-then-out_of_range.ensures in
    rw (e.cause, e.place) (refuses _ _ _ _ _
    (cost_5 _ _ _ _ _ _ (within _ _ c.if-i-lt1.false c.if-layout-i.false) (within _ _ c.if-j-lt1.false c.if-layout-j.false)
    (ap outside (sym (same (goal.at.returns-then-out_of_range c).Start)) ∙ sym c.out_of_range.ensures ∙ c.if-out_of_range.true)))

pub overflow_add-at : goal.overflow_add-at
overflow_add-at c =
    omega (arith, room_0 _ _ _ c.requires, lanes_few _ _ _ c.requires, row_few _ _ _ c.requires c.args.i c.if-layout-i.false)

pub overflow_add-at-2 : goal.overflow_add-at-2
overflow_add-at-2 c =
    omega (arith, room_0 _ _ _ c.requires, lanes_few _ _ _ c.requires, row_few _ _ _ c.requires c.args.i c.if-layout-i.false)

pub raised-cell-requires : goal.raised-cell-requires
raised-cell-requires c = sym c.out_of_range.ensures ∙ c.if-out_of_range.false

pub offset_bounds-store-at : goal.offset_bounds-store-at
offset_bounds-store-at c =
    omega (arith, room_0 _ _ _ c.requires, lanes_few _ _ _ c.requires, row_few _ _ _ c.requires c.args.i c.if-layout-i.false, c)

pub bounds-store-at : goal.bounds-store-at
bounds-store-at c =
    omega (
      arith,
      room_0 _ _ _ c.requires,
      lanes_few _ _ _ c.requires,
      c.costs_at.ensures,
      lane_in c.args.layout.m c.args.layout.n c.args.i c.args.j c.if-i-lt1.false c.if-layout-i.false c.if-j-lt1.false c.if-layout-j.false,
    )

pub returns : goal.returns
unfolding writes
returns c =
    works _ _ _ _ _
    (cost_none _ _ _ _ _ _ (within _ _ c.if-i-lt1.false c.if-layout-i.false) (within _ _ c.if-j-lt1.false c.if-layout-j.false)
    (ap outside (sym (same (goal.at.returns c).Start)) ∙ sym c.out_of_range.ensures ∙ c.if-out_of_range.false))
    (cost_placed c.args.store.now c.costs_at.result ((c.args.i - 1) * c.args.layout.n + (c.args.j - 1))
    (costs_at c.args.layout.m c.args.layout.n) _ c.args.value c.costs_at.ensures (c.raised-cell.ensures ∙ ap raised_of (same (goal.at.returns c).Start)))
