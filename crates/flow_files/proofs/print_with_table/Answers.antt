-- `flow_files::print_with_table` meets its contract. Assumes nothing.
use mathlib.Core.Path.{◌≡◌, sym}
use lib.ListN.{length}
use lib.Seq.{length-take-le}
use Rattle.flow_files.proofs.FlowLaws.{entries_kept, table_refused, table_read}
use borrow.Author.Rules.{rules}
use Rattle.flow_files.proofs.print_with_table.Goals.{After-entry_cells-entries}
use Rattle.flow_files.proofs.print_with_table.Goals as goal

-- how many cells are lent
room : (c : After-entry_cells-entries) → length c.entry_cells-entries.result ≡ 4002
room c = search (rules, c.entry_cells-entries.type_inv)

pub slice_bounds-print_network-end : goal.slice_bounds-print_network-end
slice_bounds-print_network-end c =
    sym (length-take-le _ _ (entries_kept _ _ _ _ _ (room (goal.at.slice_bounds-print_network-end c).After-entry_cells-entries) c.read_entries-answer.ensures c.in-Ok.is c.min-kept.ensures))

pub returns-in-Err : goal.returns-in-Err
returns-in-Err c =
    table_refused _ _ _ c.read_entries-answer.ensures c.in-Err.is c.number.ensures c.print_refused.ensures

pub returns-in-Ok : goal.returns-in-Ok
returns-in-Ok c =
    table_read _ _ _ c.read_entries-answer.ensures _ _ _ (room (goal.at.returns-in-Ok c).After-entry_cells-entries) c.in-Ok.is
    c.min-kept.ensures c.read_place-place.ensures c.print_network.ensures
