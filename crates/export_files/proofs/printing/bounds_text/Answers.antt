use Rattle.export_files.proofs.Printings.{text_untold, bounds-told-of}
use Rattle.export_files.proofs.printing.bounds_text.Goals as goal

-- src/printing.rt:44:9
pub returns-then-report-lt2 : goal.returns-then-report-lt2
returns-then-report-lt2 c = text_untold _ _ _ c.if-report-lt2.true

-- src/printing.rt:34:1
pub returns : goal.returns
returns c =
    let t = c.tell_printed.ensures in
    bounds-told-of _ _ _ _ _ _ c.if-report-lt2.false t.0 t.1 _ _ _ c.bounds_files-printed.ensures
