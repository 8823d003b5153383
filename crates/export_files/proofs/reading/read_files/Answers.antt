use Rattle.export_files.proofs.Readings.{read_untold, read_told}
use Rattle.export_files.proofs.reading.read_files.Goals as goal

-- src/reading.rt:204:9
pub returns-then-report-lt3 : goal.returns-then-report-lt3
returns-then-report-lt3 c = read_untold _ _ _ _ _ _ _ c.if-report-lt3.true

-- src/reading.rt:192:1
pub returns : goal.returns
returns c =
    let t = c.tell_reading.ensures in read_told _ _ _ _ _ _ _ _ _ _ _ _ _ _ c.if-report-lt3.false c.read_into-reading.ensures t.0 t.1
