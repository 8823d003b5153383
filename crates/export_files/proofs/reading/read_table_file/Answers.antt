use Rattle.export_reports.proofs.Reports.{one_written}
use Rattle.export_files.proofs.Readings.{entries_untold, entries_refused, entries_stored}
use Rattle.export_files.proofs.reading.read_table_file.Goals as goal

-- src/reading.rt:235:9
pub returns-then-report-lt2 : goal.returns-then-report-lt2
returns-then-report-lt2 c = entries_untold _ _ _ c.if-report-lt2.true

-- src/reading.rt:231:1
pub returns-in-Err : goal.returns-in-Err
returns-in-Err c =
    entries_refused _ _ _ _ _ _ c.if-report-lt2.false c.judged_entries-found.ensures c.in-Err.is (one_written c.args.report.now _ c.if-report-lt2.false) c.number.ensures

-- src/reading.rt:231:1
pub returns-in-Ok : goal.returns-in-Ok
returns-in-Ok c =
    entries_stored _ _ _ _ _ _ _ _ c.if-report-lt2.false c.judged_entries-found.ensures c.in-Ok.is
    c.read_entries.ensures (one_written c.args.report.now _ c.if-report-lt2.false)
