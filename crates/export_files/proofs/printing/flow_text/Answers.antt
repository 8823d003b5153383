use Rattle.export_files.proofs.Printings.{text_untold, flow_told_of}
use Rattle.export_files.proofs.printing.flow_text.Goals as goal

-- src/printing.rt:61:9
pub returns-then-report-lt2 : goal.returns-then-report-lt2
returns-then-report-lt2 c = text_untold _ _ _ c.if-report-lt2.true

-- src/printing.rt:51:1
pub returns : goal.returns
returns c =
    let t = c.tell_printed.ensures in
    flow_told_of _ _ _ _ _ _ c.if-report-lt2.false t.0 t.1 _ _ _ c.flow_files-printed.ensures
