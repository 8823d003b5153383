use Rattle.export_files.proofs.Readings.{into_refused, into_read}
use Rattle.export_files.proofs.reading.read_into.Goals as goal

-- src/reading.rt:132:1
pub returns-in-Refused : goal.returns-in-Refused
returns-in-Refused c = into_refused _ _ _ _ _ _ _ _ _ _ c.judged-reading.ensures c.in-Refused.is

-- src/reading.rt:132:1
pub returns-in-Read : goal.returns-in-Read
returns-in-Read c =
    into_read _ _ _ _ _ _ _ _ _ _ _ _ _ _ _ c.judged-reading.ensures c.in-Read.is c.read_case.ensures
