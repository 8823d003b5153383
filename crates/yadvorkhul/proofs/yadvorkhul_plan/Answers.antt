-- `yadvorkhul::yadvorkhul_plan` meets its contract, by the planner's promise. Assumes nothing.
use Rattle.export_reports.proofs.Reports.{by_short, by_worth, by_told}
use Rattle.yadvorkhul.proofs.yadvorkhul_plan.Goals as goal

pub returns-then-report-lt2 : goal.returns-then-report-lt2
returns-then-report-lt2 c = by_short _ _ _ _ c.if-report-lt2.true

pub returns-then-worth-lt2 : goal.returns-then-worth-lt2
returns-then-worth-lt2 c = by_worth _ _ _ _ c.if-report-lt2.false c.if-worth-lt2.true

pub returns : goal.returns
returns c =
    let t = c.tell.ensures in
    by_told _ _ _ _ _ _ _ _ _ c.if-report-lt2.false c.if-worth-lt2.false c.plan-answer.ensures t.0 t.1 t.2
