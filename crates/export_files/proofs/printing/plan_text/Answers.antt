use Rattle.export_files.proofs.Printings.{text_untold, plan_told}
use Rattle.export_files.proofs.printing.plan_text.Goals as goal

-- src/printing.rt:27:9
pub returns-then-report-lt2 : goal.returns-then-report-lt2
returns-then-report-lt2 c = text_untold _ _ _ c.if-report-lt2.true

-- src/printing.rt:23:1
pub returns : goal.returns
returns c =
    let t = c.tell_printed.ensures in
    plan_told _ _ _ _ _ _ c.if-report-lt2.false t.0 t.1 _ _ c.plan_files-printed.ensures
