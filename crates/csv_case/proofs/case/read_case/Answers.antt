-- `csv_case::case::read_case` meets its contract. Assumes nothing.
use mathlib.Core.Path.{◌≡◌, sym, ◌∙◌}
use Rattle.std.proofs.lemmas.Result.{err_from_is_err_and}
use Rattle.csv_case.proofs.TariffCase.{tariff_refused, production_refused, both_accepted}
use lib.ListN.{length}
use borrow.Author.Rules.{rules}
use Rattle.csv_case.proofs.case.read_case.Goals.{After-blank-cells, After-entry_blank-held}
use Rattle.csv_case.proofs.case.read_case.Goals as goal

-- how many cells are lent
long-cells : (c : After-blank-cells) → length c.blank-cells.result ≡ 2145
long-cells c = search (rules, c.blank-cells.type_inv)

long-held : (c : After-entry_blank-held) → length c.entry_blank-held.result ≡ 4002
long-held c = search (rules, c.entry_blank-held.type_inv)

pub returns-in_err-records : goal.returns-in_err-records
returns-in_err-records c =
    let p = err_from_is_err_and c.from_residual.result c.from_residual.ensures.1 in
    rw (p.1, p.2) (tariff_refused _ _ _ _ _ _ _ _ c.in_err-records.was c.read_table.ensures.answered)

pub returns-in_err-p : goal.returns-in_err-p
returns-in_err-p c =
    let p = err_from_is_err_and c.from_residual-in_err-p.result c.from_residual-in_err-p.ensures.1 in
    rw (p.1, p.2)
    (production_refused _ _ _ _ _ _ _ _ _ _ (sym c.in_ok-records.was ∙ c.read_table.ensures.answered) c.in_err-p.was c.read_table-2.ensures.answered)

pub returns : goal.returns
returns c =
    both_accepted _ _ _ _ _ _ _ _ _ _ _ _ _ _ _ _ _ _ _ _ (long-cells (goal.at.returns c).After-blank-cells) (long-held (goal.at.returns c).After-entry_blank-held)
    c.in_ok-records.was c.read_table.ensures c.in_ok-p.was c.read_table-2.ensures c.share.ensures c.share_entries.ensures
