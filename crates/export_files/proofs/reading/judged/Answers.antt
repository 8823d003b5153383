use mathlib.Core.Path.{sym, ◌∙◌}
use Rattle.export_files.proofs.Readings.{files_refused, files_case}
use Rattle.export_files.proofs.reading.judged.Goals as goal

-- src/reading.rt:104:1
pub returns-in-Err : goal.returns-in-Err
returns-in-Err c =
    files_refused _ _ _ _ _ _ _ _
    (sym c.read_case-answer.ensures.answered ∙ c.in-Err.is)
    c.faulty_file.ensures c.number.ensures

-- src/reading.rt:104:1
pub returns-in-Ok : goal.returns-in-Ok
returns-in-Ok c =
    files_case _ _ _ _ _ _ _ _ _ _ (sym c.read_case-answer.ensures.answered ∙ c.in-Ok.is) c.sized.ensures
