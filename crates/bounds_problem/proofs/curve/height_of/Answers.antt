-- `bounds_problem::curve::height_of` meets its contract.  Assumes nothing.
use mathlib.Core.Path.{sym, ap, subst}
use native.Mathlib.Omega.{arith}
use lib.Dec.{T}
use lib.IntN.{ℤ, nat_abs}
use lib.Signed.{non_neg}
use mir.Syntax.{w64}
use mir.Val.{Fits}
use Rattle.bounds_problem.proofs.HeightLoops.{height_sum, height_fits, stored}
use Rattle.bounds_problem.proofs.curve.height_of.Goals as goal

pub overflow_add-result : goal.overflow_add-result
overflow_add-result c = height_fits _ _ (height_sum c.args.freight c.ranges.freight c.requires) c.requires.small

pub overflow_cast-result : goal.overflow_cast-result
overflow_cast-result c =
    subst (λ (z : ℤ). T (non_neg z) × Fits w64 (nat_abs z)) (sym (stored _ _ (height_sum c.args.freight c.ranges.freight c.requires) c.requires.small))
    (tt, record { fits = omega (arith, c.requires.small) })

pub returns : goal.returns
returns c = ap nat_abs (stored _ _ (height_sum c.args.freight c.ranges.freight c.requires) c.requires.small)
