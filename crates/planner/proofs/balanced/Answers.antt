-- `planner::balanced` meets its contract. Assumes nothing.
use mathlib.Core.Path.{sym}
use Prim.Native.Nat.{ℕ}
use Rattle.std.proofs.lemmas.Result.{err_from_is_err_and}
use Rattle.problem.specs.Case.{Case}
use Rattle.lent_case.specs.Lent.{case_of}
use Rattle.planner.proofs.LaterTests.{form_decides, amounts, unbalanced, on_balance}
use Rattle.planner.proofs.balanced.Goals.{Start}
use Rattle.planner.proofs.balanced.Goals as goal

-- the lent case
abbrev the : Start → ℕ → ℕ → ℕ → Case
the s p q f = case_of s.args.case.now p q f

pub returns-in_err-form_test : goal.returns-in_err-form_test
returns-in_err-form_test c =
    let r = err_from_is_err_and c.from_residual.result c.from_residual.ensures.1 in
    λ p s f. rw (r.1, r.2) (form_decides _ _ (sym (c.in_err-form_test.ensures p s f)))

pub made_of-requires : goal.made_of-requires
made_of-requires c = amounts (the (goal.at.made_of-requires c).Start 0 0 0) (sym (c.in_ok-form_test.ensures 0 0 0))

pub returns-in_err-made_of : goal.returns-in_err-made_of
returns-in_err-made_of c =
    let e = c.from_residual-in_err-made_of in
    let r = err_from_is_err_and e.result e.ensures.1 in
    λ p s f. rw (r.1, r.2) (unbalanced (the (goal.at.returns-in_err-made_of c).Start p s f) (sym (c.in_ok-form_test.ensures p s f)) _ (sym c.in_err-made_of.ensures))

pub returns : goal.returns
returns c = λ p s f. on_balance (the (goal.at.returns c).Start p s f) (sym (c.in_ok-form_test.ensures p s f)) _ (sym c.in_ok-made_of.ensures)
