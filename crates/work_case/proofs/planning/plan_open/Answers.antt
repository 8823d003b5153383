-- `work_case::planning::plan_open` meets its contract. By the planner's promise. Assumes nothing.
use mathlib.Core.Path.{refl}
use native.Mathlib.Omega.{arith}
use Rattle.work_store.proofs.CaseCells.{front_room, front_lanes, few_entries}
use Rattle.work_store.proofs.CostLaws.{front_taken}
use Rattle.work_plans.proofs.PlanLaws.{lanes_long, planned_cells}
use Rattle.work_case.proofs.planning.plan_open.Goals as goal

pub entries-requires : goal.entries-requires
entries-requires c =
    omega (arith, front_room _ _ _ c.requires, front_lanes _ _ _ c.requires, c.requires.few, c.requires.many, few_entries c.args.store.now)

pub overflow_add-e : goal.overflow_add-e
overflow_add-e c =
    omega (arith, front_room _ _ _ c.requires, front_lanes _ _ _ c.requires, few_entries c.args.store.now)

pub overflow_mul-lanes : goal.overflow_mul-lanes
overflow_mul-lanes c =
    omega (arith, front_room _ _ _ c.requires, front_lanes _ _ _ c.requires, few_entries c.args.store.now)

pub bounds-store-11 : goal.bounds-store-11
bounds-store-11 c =
    omega (arith, front_room _ _ _ c.requires, front_lanes _ _ _ c.requires, few_entries c.args.store.now, c)

pub bounds-store-12 : goal.bounds-store-12
bounds-store-12 c =
    omega (arith, front_room _ _ _ c.requires, front_lanes _ _ _ c.requires, few_entries c.args.store.now, c)

pub offset_bounds-store-b : goal.offset_bounds-store-b
offset_bounds-store-b c =
    omega (arith, front_room _ _ _ c.requires, front_lanes _ _ _ c.requires, few_entries c.args.store.now, c)

pub slice_bounds-lower_cells-count : goal.slice_bounds-lower_cells-count
slice_bounds-lower_cells-count c =
    omega (arith, front_room _ _ _ c.requires, front_lanes _ _ _ c.requires, few_entries c.args.store.now, c)

pub slice_bounds-lower_cells-start : goal.slice_bounds-lower_cells-start
slice_bounds-lower_cells-start c =
    omega (arith, front_room _ _ _ c.requires, front_lanes _ _ _ c.requires, few_entries c.args.store.now, c)

pub slice_bounds-lower_cells-end : goal.slice_bounds-lower_cells-end
slice_bounds-lower_cells-end c =
    omega (arith, front_room _ _ _ c.requires, front_lanes _ _ _ c.requires, few_entries c.args.store.now, c)

pub lower_cells-requires : goal.lower_cells-requires
lower_cells-requires c =
    omega (
      arith,
      front_room _ _ _ c.requires,
      front_lanes _ _ _ c.requires,
      c.requires.few,
      c.requires.many,
      few_entries c.args.store.now,
      lanes_long c.args.layout.m c.args.layout.n c.args.store.now c.requires _ _ _ _ _ c.demands_at-a.ensures
          c.costs_at-b.ensures c.ceilings_at-c.ensures c.table_at-d.ensures c.entries.ensures,
    )

pub slice_bounds-case-count : goal.slice_bounds-case-count
slice_bounds-case-count c =
    omega (arith, front_room _ _ _ c.requires, front_lanes _ _ _ c.requires, few_entries c.args.store.now)

pub slice_bounds-case-start : goal.slice_bounds-case-start
slice_bounds-case-start c =
    omega (arith, front_room _ _ _ c.requires, front_lanes _ _ _ c.requires, few_entries c.args.store.now, c)

pub slice_bounds-case-end : goal.slice_bounds-case-end
slice_bounds-case-end c =
    omega (arith, front_room _ _ _ c.requires, front_lanes _ _ _ c.requires, few_entries c.args.store.now, c)

pub offset_bounds-store-s : goal.offset_bounds-store-s
offset_bounds-store-s c =
    omega (arith, front_room _ _ _ c.requires, front_lanes _ _ _ c.requires, few_entries c.args.store.now, c)

pub slice_bounds-case-count-2 : goal.slice_bounds-case-count-2
slice_bounds-case-count-2 c =
    omega (arith, front_room _ _ _ c.requires, front_lanes _ _ _ c.requires, few_entries c.args.store.now, c)

pub slice_bounds-case-start-2 : goal.slice_bounds-case-start-2
slice_bounds-case-start-2 c =
    omega (arith, front_room _ _ _ c.requires, front_lanes _ _ _ c.requires, few_entries c.args.store.now, c)

pub slice_bounds-case-end-2 : goal.slice_bounds-case-end-2
slice_bounds-case-end-2 c =
    omega (arith, front_room _ _ _ c.requires, front_lanes _ _ _ c.requires, few_entries c.args.store.now, c)

pub offset_bounds-store-a : goal.offset_bounds-store-a
offset_bounds-store-a c =
    omega (arith, front_room _ _ _ c.requires, front_lanes _ _ _ c.requires, few_entries c.args.store.now, c)

pub slice_bounds-case-count-3 : goal.slice_bounds-case-count-3
slice_bounds-case-count-3 c =
    omega (arith, front_room _ _ _ c.requires, front_lanes _ _ _ c.requires, few_entries c.args.store.now, c)

pub slice_bounds-case-start-3 : goal.slice_bounds-case-start-3
slice_bounds-case-start-3 c =
    omega (arith, front_room _ _ _ c.requires, front_lanes _ _ _ c.requires, few_entries c.args.store.now, c)

pub slice_bounds-case-end-3 : goal.slice_bounds-case-end-3
slice_bounds-case-end-3 c =
    omega (arith, front_room _ _ _ c.requires, front_lanes _ _ _ c.requires, few_entries c.args.store.now, c)

pub offset_bounds-store-c : goal.offset_bounds-store-c
offset_bounds-store-c c =
    omega (arith, front_room _ _ _ c.requires, front_lanes _ _ _ c.requires, few_entries c.args.store.now, c)

pub slice_bounds-case-count-4 : goal.slice_bounds-case-count-4
slice_bounds-case-count-4 c =
    omega (arith, front_room _ _ _ c.requires, front_lanes _ _ _ c.requires, few_entries c.args.store.now, c)

pub slice_bounds-case-start-4 : goal.slice_bounds-case-start-4
slice_bounds-case-start-4 c =
    omega (arith, front_room _ _ _ c.requires, front_lanes _ _ _ c.requires, few_entries c.args.store.now, c)

pub slice_bounds-case-end-4 : goal.slice_bounds-case-end-4
slice_bounds-case-end-4 c =
    omega (arith, front_room _ _ _ c.requires, front_lanes _ _ _ c.requires, few_entries c.args.store.now, c)

pub offset_bounds-store-d : goal.offset_bounds-store-d
offset_bounds-store-d c =
    omega (arith, front_room _ _ _ c.requires, front_lanes _ _ _ c.requires, few_entries c.args.store.now, c)

pub slice_bounds-case-count-5 : goal.slice_bounds-case-count-5
slice_bounds-case-count-5 c =
    omega (arith, front_room _ _ _ c.requires, front_lanes _ _ _ c.requires, few_entries c.args.store.now, c)

pub slice_bounds-case-start-5 : goal.slice_bounds-case-start-5
slice_bounds-case-start-5 c =
    omega (arith, front_room _ _ _ c.requires, front_lanes _ _ _ c.requires, few_entries c.args.store.now, c)

pub slice_bounds-case-end-5 : goal.slice_bounds-case-end-5
slice_bounds-case-end-5 c =
    omega (arith, front_room _ _ _ c.requires, front_lanes _ _ _ c.requires, few_entries c.args.store.now, c)

pub returns : goal.returns
returns c =
    planned_cells c.args.layout.m c.args.layout.n c.args.store.now c.requires _ _ _ _ _ c.demands_at-a.ensures
    c.costs_at-b.ensures c.ceilings_at-c.ensures c.table_at-d.ensures c.entries.ensures _ _ _ _ _ _ _
    _ refl (front_taken _ _ _ c.lower_cells.ensures) c.plan.ensures
