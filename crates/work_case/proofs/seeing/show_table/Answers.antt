-- `work_case::seeing::show_table` meets its contract. Assumes nothing.
use mathlib.Core.Path.{refl}
use Prim.Native.Nat.{◌+◌, ◌-◌}
use native.Mathlib.Omega.{arith}
use Rattle.work_store.proofs.ListParts.{part_length}
use Rattle.work_store.proofs.CaseCells.{room_0, lanes_few, few_entries}
use Rattle.work_store.proofs.SeeLaws.{short_table, long_table, table_shown}
use Rattle.work_case.proofs.seeing.show_table.Goals as goal

pub entries-count-requires : goal.entries-count-requires
entries-count-requires c = omega (arith, room_0 _ _ _ c.requires, lanes_few _ _ _ c.requires, c.requires.few, c.requires.many)

pub overflow_add-e : goal.overflow_add-e
overflow_add-e c =
    omega (arith, room_0 _ _ _ c.requires, lanes_few _ _ _ c.requires, few_entries c.args.store.now)

pub returns-then-table-count : goal.returns-then-table-count
returns-then-table-count c = record { told = rw (c.at.ensures.cause, c.at.ensures.place) (short_table c.args.layout.m c.args.layout.n c.args.store.now c.requires _ _ c.entries-count.ensures c.table_at-d.ensures _ c.if-table-count.true); table = refl }

pub offset_bounds-store-d : goal.offset_bounds-store-d
offset_bounds-store-d c =
    omega (arith, room_0 _ _ _ c.requires, lanes_few _ _ _ c.requires, few_entries c.args.store.now)

pub slice_bounds-put_cells-count : goal.slice_bounds-put_cells-count
slice_bounds-put_cells-count c =
    omega (arith, room_0 _ _ _ c.requires, lanes_few _ _ _ c.requires, few_entries c.args.store.now)

pub slice_bounds-put_cells-start : goal.slice_bounds-put_cells-start
slice_bounds-put_cells-start c =
    omega (arith, room_0 _ _ _ c.requires, lanes_few _ _ _ c.requires, few_entries c.args.store.now)

pub slice_bounds-put_cells-end : goal.slice_bounds-put_cells-end
slice_bounds-put_cells-end c =
    omega (arith, room_0 _ _ _ c.requires, lanes_few _ _ _ c.requires, few_entries c.args.store.now)

pub put_cells-requires : goal.put_cells-requires
put_cells-requires c =
    omega (
      arith,
      room_0 _ _ _ c.requires,
      lanes_few _ _ _ c.requires,
      few_entries c.args.store.now,
      part_length (c.table_at-d.result + c.entries-count.result - c.table_at-d.result) c.table_at-d.result
          c.args.store.now
          (omega (
            arith,
            room_0 _ _ _ c.requires,
            lanes_few _ _ _ c.requires,
            c.requires.few,
            c.requires.many,
            few_entries c.args.store.now,
            c.entries-count.ensures,
            c.table_at-d.ensures,
          )),
      c,
    )

pub returns : goal.returns
returns c = record {
  told = long_table c.args.layout.m c.args.layout.n c.args.store.now c.requires _ _ c.entries-count.ensures c.table_at-d.ensures _ c.if-table-count.false;
  table = table_shown c.args.layout.m c.args.layout.n c.args.store.now c.requires _ _ c.entries-count.ensures
      c.table_at-d.ensures _ _ c.put_cells.ensures;
}
