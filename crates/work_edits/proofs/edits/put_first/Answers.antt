-- `work_edits::edits::put_first` meets its contract. Assumes nothing.
use native.Mathlib.Omega.{arith}
use Rattle.work_store.proofs.CaseCells.{room_0, lanes_few, few_entries}
use Rattle.work_store.proofs.EditLaws.{first_set}
use Rattle.work_edits.proofs.edits.put_first.Goals as goal

pub entries-old-requires : goal.entries-old-requires
entries-old-requires c =
    omega (arith, room_0 _ _ _ c.requires.fact, lanes_few _ _ _ c.requires.fact, few_entries c.args.store.now, c)

pub overflow_add-at : goal.overflow_add-at
overflow_add-at c =
    omega (arith, room_0 _ _ _ c.requires.fact, lanes_few _ _ _ c.requires.fact, few_entries c.args.store.now)

pub zero_cells-requires : goal.zero_cells-requires
zero_cells-requires c =
    omega (arith, room_0 _ _ _ c.requires.fact, lanes_few _ _ _ c.requires.fact, few_entries c.args.store.now, c)

pub bounds-store-13 : goal.bounds-store-13
bounds-store-13 c =
    omega (arith, room_0 _ _ _ c.requires.fact, lanes_few _ _ _ c.requires.fact, few_entries c.args.store.now, c)

pub returns : goal.returns
returns c =
    first_set _ _ _ _ _ _ _ _ c.zero_cells.ensures c.table_at-at.ensures c.entries-old.ensures c.saturating_sub.ensures
