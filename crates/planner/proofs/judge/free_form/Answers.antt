-- `planner::judge::free_form` meets its contract. Assumes nothing.
use mathlib.Core.Path.{refl, sym}
use Prim.Native.Nat.{ℕ}
use native.Mathlib.Omega.{arith}
use lib.ListN.{length-replicate}
use lib.Seq.{length-take-le}
use Rattle.std.proofs.lemmas.Result.{err_from_is_err_and}
use Rattle.validation.proofs.FormTests.{lanes, in_limits, by_size}
use Rattle.planner.proofs.Judging.{free_formed}
use Rattle.planner.proofs.judge.free_form.Goals as goal

pub returns-in_err-checked : goal.returns-in_err-checked
returns-in_err-checked c =
    let r = err_from_is_err_and c.from_residual.result c.from_residual.ensures.1 in
    λ p s f. rw (r.1, r.2) (sym (by_size _ _ (sym c.in_err-checked.ensures)))

pub overflow_mul-lanes : goal.overflow_mul-lanes
overflow_mul-lanes c = omega (arith, lanes (in_limits _ _ _ (sym c.in_ok-checked.ensures)))

pub slice_bounds-ceilings-end : goal.slice_bounds-ceilings-end
slice_bounds-ceilings-end c = omega (arith, lanes (in_limits _ _ _ (sym c.in_ok-checked.ensures)))

pub slice_bounds-form_test-end : goal.slice_bounds-form_test-end
slice_bounds-form_test-end c =
    sym (length-take-le _ _ (omega (arith, lanes (in_limits _ _ _ (sym c.in_ok-checked.ensures)), length-replicate {A = ℕ} 2048 4000)))

pub returns : goal.returns
returns c = λ p s f. free_formed _ _ _ _ _ _ _ _ _ _ _ (in_limits _ _ _ (sym c.in_ok-checked.ensures)) refl (c.form_test.ensures p s f)
