-- `yadvorkhul::seen::yadvorkhul_plan_mark` meets its contract, by that of `roles::plan_mark`. Assumes nothing.
use Rattle.yadvorkhul.proofs.WorkReports.{plan_untold, plan_unvalued, plan_told}
use Rattle.yadvorkhul.proofs.seen.yadvorkhul_plan_mark.Goals as goal

pub returns-then-report-lt2 : goal.returns-then-report-lt2
returns-then-report-lt2 c = plan_untold _ _ _ _ _ c.if-report-lt2.true

pub returns-then-worth-lt2 : goal.returns-then-worth-lt2
returns-then-worth-lt2 c = plan_unvalued _ _ _ _ _ c.if-report-lt2.false c.if-worth-lt2.true

pub returns : goal.returns
returns c =
    let t = c.tell.ensures in
    plan_told _ _ _ _ _ _ _ _ _ _ c.if-report-lt2.false c.if-worth-lt2.false c.plan_mark-answer.ensures t.0 t.1 t.2
