-- `bounds_files::print_with_high` meets its contract. Assumes nothing.
use mathlib.Core.Path.{◌≡◌}
use lib.ListN.{length}
use Rattle.bounds_files.proofs.BoundsPrinting.{high_refused, high_stored}
use borrow.Author.Rules.{rules}
use Rattle.bounds_files.proofs.print_with_high.Goals.{After-entry_cells-highs}
use Rattle.bounds_files.proofs.print_with_high.Goals as goal

-- how many cells are lent
room : (c : After-entry_cells-highs) → length c.entry_cells-highs.result ≡ 4002
room c = search (rules, c.entry_cells-highs.type_inv)

pub returns-in-Err : goal.returns-in-Err
returns-in-Err c =
    high_refused _ _ _ _ _ _ _ _ _ _ c.read_case-answer.ensures c.in-Err.is c.number.ensures _ c.print_refusal.ensures

pub returns-in-Ok : goal.returns-in-Ok
returns-in-Ok c =
    high_stored _ _ _ _ _ _ _ _ _ _ c.read_case-answer.ensures (room (goal.at.returns-in-Ok c).After-entry_cells-highs) _ _ _ c.in-Ok.is _ c.print_stored.ensures
