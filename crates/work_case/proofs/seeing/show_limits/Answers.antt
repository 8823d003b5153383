-- `work_case::seeing::show_limits` meets its contract. Assumes nothing.
use mathlib.Core.Path.{refl}
use mathlib.Core.Logic.{inl, inr}
use native.Mathlib.Omega.{arith}
use Rattle.work_store.proofs.CaseCells.{room_0}
use Rattle.work_store.proofs.LimitLaws.{short_runs, short_ceilings, long_limits, runs_shown, ceilings_shown}
use Rattle.work_case.proofs.seeing.show_limits.Goals as goal

pub returns-then-runs-lt2 : goal.returns-then-runs-lt2
returns-then-runs-lt2 c = record {
  told = rw (c.at.ensures.cause, c.at.ensures.place) (elim c.then-runs-lt2.either [
    | inl h ↦ short_runs c.args.layout.m c.args.layout.n c.args.store.now c.requires _ _ h
    | inr h ↦ short_ceilings c.args.layout.m c.args.layout.n c.args.store.now c.requires _ _ h.1
  ]);
  runs = refl;
  ceilings = refl;
}

pub slice_bounds-put_cells-end : goal.slice_bounds-put_cells-end
slice_bounds-put_cells-end c =
    omega (arith, room_0 c.args.layout.m c.args.layout.n c.args.store.now c.requires)

pub slice_bounds-put_cells-end-2 : goal.slice_bounds-put_cells-end-2
slice_bounds-put_cells-end-2 c =
    omega (arith, room_0 c.args.layout.m c.args.layout.n c.args.store.now c.requires, c.table_at-d.ensures)

pub returns : goal.returns
returns c = record {
  told = long_limits c.args.layout.m c.args.layout.n c.args.store.now c.requires _ _ c.if-runs-lt2.false c.if-ceilings-lanes.false;
  runs = runs_shown c.args.layout.m c.args.layout.n c.args.store.now c.requires _ _ c.put_cells.ensures;
  ceilings = ceilings_shown c.args.layout.m c.args.layout.n c.args.store.now c.requires _ _ c.ceilings_at-c.ensures c.table_at-d.ensures _ _
      c.put_cells-2.ensures;
}
