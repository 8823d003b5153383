-- `yadvorkhul::bounds::yadvorkhul_bounds` meets its contract, by that of `possible_splits`. Assumes nothing.
use Rattle.export_reports.proofs.Reports.{by_short_report, by_short_worth, by_bounds}
use Rattle.yadvorkhul.proofs.bounds.yadvorkhul_bounds.Goals as goal

pub returns-then-report-lt2 : goal.returns-then-report-lt2
returns-then-report-lt2 c = by_short_report _ _ _ _ _ c.if-report-lt2.true

pub returns-then-worth-lt2 : goal.returns-then-worth-lt2
returns-then-worth-lt2 c = by_short_worth _ _ _ _ _ c.if-report-lt2.false c.if-worth-lt2.true

pub returns : goal.returns
returns c =
    let t = c.tell_bounds.ensures in
    by_bounds _ _ _ _ _ _ _ _ _ _ c.if-report-lt2.false c.if-worth-lt2.false c.possible_splits-answer.ensures t.0 t.1 t.2
