-- `export_files::reading::judged_entries` meets its contract. Assumes nothing.
use Rattle.std.proofs.lemmas.Result.{err_from_is_err_and}
use Rattle.export_files.proofs.Readings.{entries_faulty, entries_short, entries_roomy}
use Rattle.export_files.proofs.reading.judged_entries.Goals as goal

pub returns-in_err-count : goal.returns-in_err-count
returns-in_err-count c =
    let p = err_from_is_err_and c.from_residual.result c.from_residual.ensures.1 in
    rw (p.1, p.2) (entries_faulty _ _ _ _ c.read_entries.ensures.answered c.in_err-count.was)

pub returns-then-table-min : goal.returns-then-table-min
returns-then-table-min c =
    rw (c.at.ensures.cause, c.at.ensures.place) (entries_short _ _ _ _ _ c.read_entries.ensures.answered c.in_ok-count.was c.min.ensures c.if-table-min.true)

pub returns : goal.returns
returns c = entries_roomy _ _ _ _ _ c.read_entries.ensures.answered c.in_ok-count.was c.min.ensures c.if-table-min.false
