use mathlib.Core.Path.{sym, ◌∙◌}
use Rattle.export_files.proofs.Readings.{roomy_refused, roomy_read}
use Rattle.export_files.proofs.reading.roomy.Goals as goal

-- src/reading.rt:71:9
pub returns-then-too_short : goal.returns-then-too_short
returns-then-too_short c = roomy_refused _ _ _ _ _ _ _ (sym c.too_short.ensures ∙ c.if-too_short.true)

-- src/reading.rt:58:1
pub returns : goal.returns
returns c = roomy_read _ _ _ _ _ _ _ (sym c.too_short.ensures ∙ c.if-too_short.false)
