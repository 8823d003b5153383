-- `test_report::answer` meets its contract: the lent case is the report's, and its outcome is known. Assumes nothing.
use Rattle.std.proofs.Common.{refl, ap, ◌∙◌, List, ℕ}
use lib.Dec.{lit≤}
use Rattle.problem.specs.Outcome.{outcome_of}
use Rattle.ratetable.proofs.Filling.{fills_whole}
use Rattle.test_report.specs.Report.{report_with, report}
use Rattle.test_report.proofs.ReportAnswer.{given}
use Rattle.test_report.proofs.answer.Goals as goal

pub returns : goal.returns
unfolding report
returns c =
    c.plan.ensures.answer
    ∙ ap (λ (t : List ℕ). outcome_of (report_with t)) (c.fill.ensures.1 ∙ fills_whole 200 _ (lit≤ tt) refl)
    ∙ given
