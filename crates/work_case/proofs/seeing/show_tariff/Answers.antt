-- `work_case::seeing::show_tariff` meets its contract. Assumes nothing.
use mathlib.Core.Path.{refl}
use Prim.Native.Nat.{◌-◌}
use mathlib.Core.Logic.{inl, inr}
use native.Mathlib.Omega.{arith}
use Rattle.work_store.proofs.ListParts.{part_length}
use Rattle.work_store.proofs.CaseCells.{room_0, lanes_few}
use Rattle.work_store.proofs.SeeLaws.{short_costs, short_supplies, short_demands, long_enough, costs_shown, supplies_shown, demands_shown}
use Rattle.work_case.proofs.seeing.show_tariff.Goals as goal

pub overflow_mul-lanes : goal.overflow_mul-lanes
overflow_mul-lanes c =
    omega (arith, room_0 _ _ _ c.requires, lanes_few _ _ _ c.requires)

pub returns-then-costs-lanes : goal.returns-then-costs-lanes
returns-then-costs-lanes c = record {
  told = rw (c.at.ensures.cause, c.at.ensures.place) (elim c.then-costs-lanes.either [
    | inl h ↦ short_costs c.args.layout.m c.args.layout.n c.args.store.now c.requires _ _ _ h
    | inr (inl h) ↦ short_supplies c.args.layout.m c.args.layout.n c.args.store.now c.requires _ _ _ h.1
    | inr (inr h) ↦ short_demands c.args.layout.m c.args.layout.n c.args.store.now c.requires _ _ _ h.2
  ]);
  costs = refl;
  supplies = refl;
  demands = refl;
}

pub offset_bounds-store-b : goal.offset_bounds-store-b
offset_bounds-store-b c =
    omega (arith, room_0 _ _ _ c.requires, lanes_few _ _ _ c.requires)

pub slice_bounds-lower_cells-count : goal.slice_bounds-lower_cells-count
slice_bounds-lower_cells-count c =
    omega (arith, room_0 _ _ _ c.requires, lanes_few _ _ _ c.requires)

pub slice_bounds-lower_cells-start : goal.slice_bounds-lower_cells-start
slice_bounds-lower_cells-start c =
    omega (arith, room_0 _ _ _ c.requires, lanes_few _ _ _ c.requires)

pub slice_bounds-lower_cells-end : goal.slice_bounds-lower_cells-end
slice_bounds-lower_cells-end c =
    omega (arith, room_0 _ _ _ c.requires, lanes_few _ _ _ c.requires)

pub lower_cells-requires : goal.lower_cells-requires
lower_cells-requires c =
    omega (
      arith,
      room_0 _ _ _ c.requires,
      lanes_few _ _ _ c.requires,
      part_length (c.ceilings_at-c.result - c.costs_at-b.result) c.costs_at-b.result c.args.store.now
          (omega (arith, room_0 _ _ _ c.requires, lanes_few _ _ _ c.requires, c.requires.few, c.requires.many, c.costs_at-b.ensures, c.ceilings_at-c.ensures)),
      c,
    )

pub offset_bounds-store-s : goal.offset_bounds-store-s
offset_bounds-store-s c =
    omega (arith, room_0 _ _ _ c.requires, lanes_few _ _ _ c.requires, c)

pub slice_bounds-put_cells-count : goal.slice_bounds-put_cells-count
slice_bounds-put_cells-count c =
    omega (arith, room_0 _ _ _ c.requires, lanes_few _ _ _ c.requires, c)

pub slice_bounds-put_cells-start : goal.slice_bounds-put_cells-start
slice_bounds-put_cells-start c =
    omega (arith, room_0 _ _ _ c.requires, lanes_few _ _ _ c.requires, c)

pub slice_bounds-put_cells-end : goal.slice_bounds-put_cells-end
slice_bounds-put_cells-end c =
    omega (arith, room_0 _ _ _ c.requires, lanes_few _ _ _ c.requires, c)

pub put_cells-requires : goal.put_cells-requires
put_cells-requires c =
    omega (
      arith,
      room_0 _ _ _ c.requires,
      lanes_few _ _ _ c.requires,
      part_length (c.demands_at-a.result - 12) 12 c.args.store.now
          (omega (arith, room_0 _ _ _ c.requires, lanes_few _ _ _ c.requires, c.requires.few, c.requires.many, c.demands_at-a.ensures)),
      c,
    )

pub offset_bounds-store-a : goal.offset_bounds-store-a
offset_bounds-store-a c =
    omega (arith, room_0 _ _ _ c.requires, lanes_few _ _ _ c.requires, c)

pub slice_bounds-put_cells-count-2 : goal.slice_bounds-put_cells-count-2
slice_bounds-put_cells-count-2 c =
    omega (arith, room_0 _ _ _ c.requires, lanes_few _ _ _ c.requires, c)

pub slice_bounds-put_cells-start-2 : goal.slice_bounds-put_cells-start-2
slice_bounds-put_cells-start-2 c =
    omega (arith, room_0 _ _ _ c.requires, lanes_few _ _ _ c.requires, c)

pub slice_bounds-put_cells-end-2 : goal.slice_bounds-put_cells-end-2
slice_bounds-put_cells-end-2 c =
    omega (arith, room_0 _ _ _ c.requires, lanes_few _ _ _ c.requires, c)

pub put_cells-requires-2 : goal.put_cells-requires-2
put_cells-requires-2 c =
    omega (
      arith,
      room_0 _ _ _ c.requires,
      lanes_few _ _ _ c.requires,
      part_length (c.costs_at-b.result - c.demands_at-a.result) c.demands_at-a.result c.args.store.now
          (omega (arith, room_0 _ _ _ c.requires, lanes_few _ _ _ c.requires, c.requires.few, c.requires.many, c.demands_at-a.ensures, c.costs_at-b.ensures)),
      c,
    )

pub returns : goal.returns
returns c = record {
  told = long_enough c.args.layout.m c.args.layout.n c.args.store.now c.requires _ _ _ c.if-costs-lanes.false c.if-supplies-layout.false c.if-demands-layout.false;
  costs = costs_shown c.args.layout.m c.args.layout.n c.args.store.now c.requires _ _ _ c.demands_at-a.ensures
      c.costs_at-b.ensures c.ceilings_at-c.ensures _ _ c.lower_cells.ensures;
  supplies = supplies_shown c.args.layout.m c.args.layout.n c.args.store.now c.requires _ _ _ c.demands_at-a.ensures
      c.costs_at-b.ensures c.ceilings_at-c.ensures _ _ c.put_cells.ensures;
  demands = demands_shown c.args.layout.m c.args.layout.n c.args.store.now c.requires _ _ _ c.demands_at-a.ensures
      c.costs_at-b.ensures c.ceilings_at-c.ensures _ _ c.put_cells-2.ensures;
}
