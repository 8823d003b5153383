-- `work_edits::edits::put_entry` meets its contract. Assumes nothing.
use native.Mathlib.Omega.{arith}
use Rattle.work_store.specs.Store.{table_at, writes}
use Rattle.work_store.proofs.CallRefusals.{refuses, works}
use Rattle.work_store.proofs.CaseCells.{room_0, lanes_few, few_entries}
use Rattle.work_store.proofs.EditLaws.{placed}
use Rattle.work_store.proofs.EditRefusals.{entry_24, entry_none}
use Rattle.work_edits.proofs.edits.put_entry.Goals as goal

pub entries-count-requires : goal.entries-count-requires
entries-count-requires c = omega (arith, room_0 _ _ _ c.requires, lanes_few _ _ _ c.requires, c.requires.few, c.requires.many)

pub returns-then-count-y : goal.returns-then-count-y
returns-then-count-y c =
    rw (c.at.ensures.cause, c.at.ensures.place) (refuses _ _ _ _ _ (entry_24 _ _ _ c.requires _ _ _ c.entries-count.ensures c.if-count-y.true))

pub overflow_add-at : goal.overflow_add-at
overflow_add-at c =
    omega (arith, room_0 _ _ _ c.requires, lanes_few _ _ _ c.requires, few_entries c.args.store.now)

pub offset_bounds-store-at : goal.offset_bounds-store-at
offset_bounds-store-at c =
    omega (arith, room_0 _ _ _ c.requires, lanes_few _ _ _ c.requires, few_entries c.args.store.now)

pub bounds-store-at : goal.bounds-store-at
bounds-store-at c =
    omega (arith, room_0 _ _ _ c.requires, lanes_few _ _ _ c.requires, few_entries c.args.store.now)

pub returns : goal.returns
unfolding writes
returns c =
    works _ _ _ _ _ (entry_none _ _ _ c.requires _ _ _ c.entries-count.ensures c.if-count-y.false)
    (placed c.args.store.now c.table_at.result c.args.y (table_at c.args.layout.m c.args.layout.n) _ c.table_at.ensures)
