-- `work_case::planning::plan_set` meets its contract: slot k is the first slot of what follows k slots. Assumes nothing.
use mathlib.Core.Path.{◌≡◌, sym, ap, ◌∙◌, subst}
use mathlib.Core.List.{List}
use Prim.Native.Nat.{ℕ, ◌-◌, ◌*◌, ◌≤◌}
use mathlib.Core.Logic.{inl, inr}
use native.Mathlib.Omega.{arith}
use lib.ListN.{length, take, drop, length-drop}
use lib.Seq.{take_all}
use Rattle.work_store.specs.Store.{width, start}
use Rattle.work_store.specs.inner.OpenStore.{Open, Front}
use Rattle.work_store.proofs.Slots.{slot_room, width_small, starts_small}
use Rattle.work_store.proofs.CaseCells.{slot_fits}
use Rattle.work_store.proofs.StateAfterWrites.{within, large}
use Rattle.work_store.proofs.CallRefusals.{out_low, out_high, back_24, back_25, back_none, flag_unset, flag_set}
use Rattle.work_plans.proofs.PlanLaws.{refused_before, mark_planned}
use Rattle.work_case.proofs.planning.plan_set.Goals as goal

-- what follows k slots
after : (k w : ℕ) (cells : List ℕ) → take (length cells - k * w) (drop (k * w) cells) ≡ drop (k * w) cells
after k w cells = take_all (length cells - k * w) (drop (k * w) cells) (omega (arith, length-drop (k * w) cells))

small : (m n k w : ℕ) (cells : List ℕ) → Open m n cells → k ≤ 8 → w ≡ width m n → k * w ≤ 65560
small m n k w cells o h e = starts_small k w h (omega (arith, width_small m n o.few o.many))

inside : (m n k w : ℕ) (cells : List ℕ) → Open m n cells → k ≤ 8 → w ≡ width m n → k * w ≤ length cells
unfolding start
inside m n k w cells o h e = omega (arith, slot_room m n k (length cells) h o.room, ap (λ (x : ℕ). k * x) e)

fits : (m n k w : ℕ) (cells : List ℕ) → Open m n cells → k ≤ 8 → w ≡ width m n → Front m n (take (length cells - k * w) (drop (k * w) cells))
fits m n k w cells o h e = subst (Front m n) (sym (after k w cells ∙ ap (λ (x : ℕ). drop (k * x) cells) e)) (slot_fits m n cells o k h)

pub returns-then-k-lt1 : goal.returns-then-k-lt1
returns-then-k-lt1 c =
    rw (c.at.ensures.cause, c.at.ensures.place)
    (refused_before _ _ _ _ _ _ _ _ (elim c.then-k-lt1.either [ inl h ↦ back_24 _ _ (out_low _ _ h) | inr h ↦ back_24 _ _ (out_high _ _ h.1) ]))

pub bounds-store-k : goal.bounds-store-k
bounds-store-k c =
    omega (arith, c.requires.room, large c.args.layout.m c.args.layout.n, c.if-k-gt8.false)

pub returns-then-store-k-eq0 : goal.returns-then-store-k-eq0
returns-then-store-k-eq0 c =
    let i = within _ _ c.if-k-lt1.false c.if-k-gt8.false in
    let e = c.at-then-store-k-eq0.ensures in
    rw (e.cause, e.place) (refused_before _ _ _ _ _ _ _ _ (back_25 _ _ i (flag_unset _ _ _ _ i c.if-store-k-eq0.true)))

pub overflow_mul-at : goal.overflow_mul-at
overflow_mul-at c =
    omega (arith, small c.args.layout.m c.args.layout.n c.args.k c.slot_width.result _ c.requires c.if-k-gt8.false c.slot_width.ensures)

pub offset_bounds-store-at : goal.offset_bounds-store-at
offset_bounds-store-at c =
    omega (arith, small c.args.layout.m c.args.layout.n c.args.k c.slot_width.result _ c.requires c.if-k-gt8.false c.slot_width.ensures)

pub slice_bounds-plan_open-count : goal.slice_bounds-plan_open-count
slice_bounds-plan_open-count c =
    inside c.args.layout.m c.args.layout.n c.args.k c.slot_width.result _ c.requires c.if-k-gt8.false c.slot_width.ensures

pub slice_bounds-plan_open-start : goal.slice_bounds-plan_open-start
slice_bounds-plan_open-start c =
    inside c.args.layout.m c.args.layout.n c.args.k c.slot_width.result _ c.requires c.if-k-gt8.false c.slot_width.ensures

pub plan_open-requires : goal.plan_open-requires
plan_open-requires c =
    fits c.args.layout.m c.args.layout.n c.args.k c.slot_width.result c.args.store.now c.requires c.if-k-gt8.false c.slot_width.ensures

pub returns : goal.returns
returns c =
    let w = c.slot_width in
    let i = within _ _ c.if-k-lt1.false c.if-k-gt8.false in
    mark_planned c.args.layout.m c.args.layout.n c.args.k c.args.store.now _ _ _ w.result _ _ _ _ w.ensures
    (after c.args.k w.result c.args.store.now) (back_none _ _ i (flag_set _ _ _ _ i c.if-store-k-eq0.false))
    (flag_set _ _ _ _ i c.if-store-k-eq0.false) c.plan_open.ensures
