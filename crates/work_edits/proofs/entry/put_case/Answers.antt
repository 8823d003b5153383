-- `work_edits::entry::put_case` meets its contract. Assumes nothing.
use native.Mathlib.Omega.{arith}
use Rattle.work_store.specs.Store.{cells_for}
use Rattle.work_store.proofs.Entering.{filled}
use Rattle.work_edits.proofs.entry.put_case.Goals as goal

pub put_cells-requires : goal.put_cells-requires
unfolding cells_for
put_cells-requires c =
    omega (arith, c)

pub put_cells-requires-2 : goal.put_cells-requires-2
unfolding cells_for
put_cells-requires-2 c =
    omega (arith, c)

pub put_cells-requires-3 : goal.put_cells-requires-3
unfolding cells_for
put_cells-requires-3 c =
    omega (arith, c)

pub raise_cells-requires : goal.raise_cells-requires
unfolding cells_for
raise_cells-requires c = (
  omega (arith, c),
  c.requires.costs_inside,
)

pub put_cells-requires-4 : goal.put_cells-requires-4
unfolding cells_for
put_cells-requires-4 c =
    omega (arith, c)

pub put_cells-requires-5 : goal.put_cells-requires-5
unfolding cells_for
put_cells-requires-5 c =
    omega (arith, c, c.put_cells-4.auto)

pub returns : goal.returns
returns c =
    filled _ _ c.requires _ _ _ _ _ _ _ _ _ _ c.demands_at-a.ensures c.costs_at-b.ensures
    c.ceilings_at-c.ensures c.table_at-d.ensures c.put_cells.ensures c.put_cells-2.ensures
    c.put_cells-3.ensures c.raise_cells.ensures c.put_cells-4.ensures
    c.put_cells-5.ensures
