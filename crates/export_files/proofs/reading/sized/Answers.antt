use mathlib.Core.Path.{sym, ◌∙◌}
use Rattle.validation.proofs.FormTests.{in_limits}
use Rattle.export_files.proofs.Readings.{size_refused, size_fits}
use Rattle.export_files.proofs.reading.sized.Goals as goal

-- src/reading.rt:99:29
pub roomy-requires : goal.roomy-requires
roomy-requires c = let h = in_limits _ _ _ (sym c.checked-size.ensures ∙ c.in-Ok.is) in (h.sources, h.terminals)

-- src/reading.rt:81:1
pub returns-in-Err : goal.returns-in-Err
returns-in-Err c = rw c.number.ensures (size_refused _ _ _ _ _ _ _ _ (sym c.checked-size.ensures ∙ c.in-Err.is))

-- src/reading.rt:81:1
pub returns-in-Ok : goal.returns-in-Ok
returns-in-Ok c = size_fits _ _ _ _ _ _ _ _ _ (sym c.checked-size.ensures ∙ c.in-Ok.is) c.roomy.ensures
