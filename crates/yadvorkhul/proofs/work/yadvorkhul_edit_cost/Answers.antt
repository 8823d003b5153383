-- `yadvorkhul::work::yadvorkhul_edit_cost` meets its contract, by that of `roles::edit_cost`. Assumes nothing.
use mathlib.Core.Path.{refl}
use mir.Syntax.{w64}
use mir.ValLaws.{to_z-of_z}
use Rattle.yadvorkhul.proofs.WorkReports.{call_untold, call_told, same_cost}
use Rattle.yadvorkhul.proofs.work.yadvorkhul_edit_cost.Goals as goal

pub returns-then-report-lt2 : goal.returns-then-report-lt2
returns-then-report-lt2 c = call_untold _ _ _ _ c.if-report-lt2.true refl

pub returns : goal.returns
returns c =
    let p = same_cost _ _ _ _ _ _ _ _ (to_z-of_z w64 c.args.value c.ranges.value) c.edit_cost-told.ensures in
    let t = c.tell_verdict.ensures in
    call_told _ _ _ _ _ _ _ c.if-report-lt2.false p.answer p t.0 t.1
