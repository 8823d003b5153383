-- `yadvorkhul::flow::yadvorkhul_flow` meets its contract, by that of `cheapest_flow`. Assumes nothing.
use Rattle.export_reports.proofs.FlowReports.{by_short_report, by_short_worth, by_flow}
use Rattle.yadvorkhul.proofs.flow.yadvorkhul_flow.Goals as goal

pub returns-then-report-lt1 : goal.returns-then-report-lt1
returns-then-report-lt1 c = by_short_report _ _ _ _ _ _ c.if-report-lt1.true

pub returns-then-worth-lt1 : goal.returns-then-worth-lt1
returns-then-worth-lt1 c = by_short_worth _ _ _ _ _ _ c.if-report-lt1.false c.if-worth-lt1.true

pub returns : goal.returns
returns c =
    let t = c.tell_flow.ensures in
    let w = c.cheapest_flow-answer.ensures in
    by_flow _ _ _ _ _ _ _ _ _ _ _ _ c.if-report-lt1.false c.if-worth-lt1.false w.1 w.0 t.0 t.1 t.2
