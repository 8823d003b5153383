-- `planner::judge::judge` meets its contract. Assumes nothing.
use mathlib.Core.Path.{refl, sym, ◌∙◌}
use Prim.Native.Nat.{ℕ}
use native.Mathlib.Omega.{arith}
use Rattle.std.proofs.lemmas.Result.{err_from_is_err_and}
use Rattle.problem.specs.Case.{Case}
use Rattle.planner.specs.Judge.{free_case}
use Rattle.planner.proofs.LaterTests.{amounts, on_balance}
use Rattle.planner.proofs.Judging.{case_form, case_unbalanced, case_entries, case_within}
use Rattle.planner.proofs.judge.judge.Goals.{Start}
use Rattle.planner.proofs.judge.judge.Goals as goal

-- the case
abbrev the : Start → ℕ → ℕ → ℕ → Case
the s p q f = free_case s.args.m s.args.n s.args.costs.now s.args.supplies.now s.args.demands.now s.args.table.now p q f

pub returns-in_err-free_form : goal.returns-in_err-free_form
returns-in_err-free_form c =
    let r = err_from_is_err_and c.from_residual.result c.from_residual.ensures.1 in
    λ p s f. rw (r.1, r.2) (sym (case_form _ _ (sym (c.in_err-free_form.ensures p s f))))

pub made_of-requires : goal.made_of-requires
made_of-requires c = amounts (the (goal.at.made_of-requires c).Start 0 0 0) (sym (c.in_ok-free_form.ensures 0 0 0))

pub returns-in_err-made : goal.returns-in_err-made
returns-in_err-made c =
    let e = c.from_residual-in_err-made in
    let r = err_from_is_err_and e.result e.ensures.1 in
    λ p s f. rw (r.1, r.2) (sym (case_unbalanced (the (goal.at.returns-in_err-made c).Start p s f) (sym (c.in_ok-free_form.ensures p s f)) _ (sym c.in_err-made.ensures)))

pub bounds-supplies-1 : goal.bounds-supplies-1
bounds-supplies-1 c = omega (arith, (amounts (the (goal.at.bounds-supplies-1 c).Start 0 0 0) (sym (c.in_ok-free_form.ensures 0 0 0))).two)

pub bounds-supplies-0 : goal.bounds-supplies-0
bounds-supplies-0 c = omega (arith, (amounts (the (goal.at.bounds-supplies-0 c).Start 0 0 0) (sym (c.in_ok-free_form.ensures 0 0 0))).two)

pub entries_test-requires : goal.entries_test-requires
entries_test-requires c =
    case_within (the (goal.at.entries_test-requires c).Start 0 0 0) refl refl refl _
    (on_balance (the (goal.at.entries_test-requires c).Start 0 0 0) (sym (c.in_ok-free_form.ensures 0 0 0)) _ (sym c.in_ok-made.ensures)) _ _ c.saturating_sub-lo.ensures c.min-hi.ensures

pub returns : goal.returns
returns c =
    λ p s f. c.entries_test.ensures ∙
    sym (case_entries (the (goal.at.returns c).Start p s f) refl refl refl _
    (on_balance (the (goal.at.returns c).Start p s f) (sym (c.in_ok-free_form.ensures p s f)) _ (sym c.in_ok-made.ensures)) _ _ c.saturating_sub-lo.ensures c.min-hi.ensures)
