-- `bounds_splits::possible_splits` meets its contract, by the planner's. Assumes nothing.
use mathlib.Core.Path.{sym, ap, ◌∙◌}
use Rattle.std.proofs.lemmas.Result.{err_from_is_err_and}
use Rattle.problem.specs.Case.{Case}
use Rattle.planner.specs.Answer.{outcome}
use Rattle.lent_case.specs.Lent.{case_of}
use Rattle.bounds_problem.proofs.AnswerFromStops.{refuse, handed_on_lem}
use Rattle.bounds_splits.proofs.StopCells.{listed}
use Rattle.bounds_splits.proofs.possible_splits.Goals.{Start}
use Rattle.bounds_splits.proofs.possible_splits.Goals as goal

-- the case
abbrev the : Start → Case
the s = case_of s.args.low.now 2048 4001 4001

pub judge-requires : goal.judge-requires
judge-requires c =
    record { case = the (goal.at.judge-requires c).Start; listed = listed c.plan.ensures _ _ _ _ (ap outcome c.in_ok-planned.was) }

pub returns-in_err-planned : goal.returns-in_err-planned
returns-in_err-planned c =
    let p = err_from_is_err_and c.from_residual.result c.from_residual.ensures.1 in
    rw (p.1, p.2) (
    refuse (the (goal.at.returns-in_err-planned c).Start) c.args.high.now c.args.answers.now _ _
    (handed_on_lem (the (goal.at.returns-in_err-planned c).Start) c.args.high.now c.args.answers.now _ _ (sym c.plan.ensures.answer ∙ ap outcome c.in_err-planned.was)))

pub returns : goal.returns
returns c =
    c.judge.ensures (the (goal.at.returns c).Start) (listed c.plan.ensures _ _ _ _ (ap outcome c.in_ok-planned.was))
