-- `yadvorkhul::work::yadvorkhul_edit_entry` meets its contract, by that of `roles::edit_entry`. Assumes nothing.
use mathlib.Core.Path.{refl}
use Rattle.yadvorkhul.proofs.WorkReports.{call_untold, call_told}
use Rattle.yadvorkhul.proofs.work.yadvorkhul_edit_entry.Goals as goal

pub returns-then-report-lt2 : goal.returns-then-report-lt2
returns-then-report-lt2 c = call_untold _ _ _ _ c.if-report-lt2.true refl

pub returns : goal.returns
returns c =
    let p = c.edit_entry-told.ensures in
    let t = c.tell_verdict.ensures in
    call_told _ _ _ _ _ _ _ c.if-report-lt2.false p.answer p t.0 t.1
