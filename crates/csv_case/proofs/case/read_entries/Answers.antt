-- `csv_case::case::read_entries` meets its contract. Assumes nothing.
use mathlib.Core.Path.{◌≡◌}
use lib.ListN.{length}
use Rattle.csv_case.proofs.EntriesAlone.{entries_read}
use borrow.Author.Rules.{rules}
use Rattle.csv_case.proofs.case.read_entries.Goals.{After-entry_blank-held}
use Rattle.csv_case.proofs.case.read_entries.Goals as goal

-- how many cells are lent
long-held : (c : After-entry_blank-held) → length c.entry_blank-held.result ≡ 4002
long-held c = search (rules, c.entry_blank-held.type_inv)

pub returns : goal.returns
returns c =
    entries_read _ _ _ _ _ _ _ _ (long-held (goal.at.returns c).After-entry_blank-held) c.in_ok-p.was c.read_table.ensures c.share_entries.ensures
