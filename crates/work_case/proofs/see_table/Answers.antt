-- `work_case::see_table` meets its contract. Assumes nothing.
use mathlib.Core.Path.{sym}
use Rattle.work_store.proofs.OpenStore.{opened}
use Rattle.work_store.proofs.SeeLaws.{table_closed, table_work}
use Rattle.std.proofs.lemmas.Result.{err_from_is_err_and}
use Rattle.work_store.proofs.OpenStore.{only_room}
use Rattle.work_case.proofs.see_table.Goals as goal

pub show_table-requires : goal.show_table-requires
show_table-requires c = opened _ _ _ (sym c.in_ok-layout.ensures)

pub returns-in_err-layout : goal.returns-in_err-layout
returns-in_err-layout c =
    let r = err_from_is_err_and c.from_residual.result c.from_residual.ensures.1 in
    let e = only_room c.args.store.now _ (sym c.in_err-layout.ensures) in
    rw (r.1, r.2, e.0) (table_closed _ _ e.1)

pub returns : goal.returns
returns c =
    table_work _ _ _ (sym c.in_ok-layout.ensures) _ _ _ c.show_table.ensures.told c.show_table.ensures.table
