-- `write_case::test_case` meets its contract. Assumes nothing.
use mathlib.Core.Path.{◌≡◌, sym, ap, ◌∙◌}
use Prim.Native.Nat.{ℕ}
use native.Mathlib.Omega.{arith}
use borrow.Author.Count.{below_more}
use Rattle.std.proofs.lemmas.Result.{err_from_is_err_and}
use Rattle.problem.specs.Case.{Case}
use Rattle.planner.specs.Judge.{free_case, judged}
use Rattle.write_case.proofs.WriterParts.{entries_form, entries_high, entries_pass}
use Rattle.write_case.proofs.test_case.Goals.{Start}
use Rattle.write_case.proofs.test_case.Goals as goal

-- the case
abbrev the : Start → ℕ → ℕ → ℕ → Case
the s p q f = free_case s.args.m s.args.n s.args.costs.now s.args.supplies.now s.args.demands.now s.args.table.now p q f

pub returns-in_err-judge : goal.returns-in_err-judge
returns-in_err-judge c p s f =
    let q = err_from_is_err_and c.from_residual.result c.from_residual.ensures.1 in
    rw (q.1, q.2) (sym (entries_form _ _ (sym (c.judge.ensures p s f) ∙ ap judged c.in_err-judge.was)))

pub loop-y-init : goal.loop-y-init
loop-y-init c = (omega arith, λ k h. absurd (omega arith))

pub returns-then-table-y-gt9999999999 : goal.returns-then-table-y-gt9999999999
returns-then-table-y-gt9999999999 c p s f =
    rw (c.at.ensures.cause, c.at.ensures.place)
    (sym (entries_high (the (goal.at.returns-then-table-y-gt9999999999 c).Start p s f) _ (sym (c.judge.ensures p s f) ∙ ap judged c.in_ok-judge.was) c.loop-y-test.true c.loop-y.invariant.1 c.if-table-y-gt9999999999.true))

pub loop-y-preserved : goal.loop-y-preserved
loop-y-preserved c = (omega (arith, c.loop-y-test.true), below_more _ _ c.loop-y.invariant.1 c.if-table-y-gt9999999999.false)

pub returns : goal.returns
returns c p s f =
    sym (entries_pass (the (goal.at.returns c).Start p s f) (sym (c.judge.ensures p s f) ∙ ap judged c.in_ok-judge.was)
    (λ k h. c.loop-y.invariant.1 k (omega (arith, h, c.loop-y-test.false))))
