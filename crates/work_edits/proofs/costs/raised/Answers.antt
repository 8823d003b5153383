-- `work_edits::costs::raised` meets its contract. Assumes nothing.
use mathlib.Core.Path.{sym, ap, subst}
use native.Mathlib.Omega.{arith}
use lib.IntN.{ℤ, nat_abs}
use lib.Signed.{non_neg}
use lib.Dec.{T}
use mir.Syntax.{w64}
use mir.Val.{Fits}
use Rattle.problem.proofs.MachineIntegers.{raised_is, raised_sum, small_fits, stored}
use Rattle.work_edits.proofs.costs.raised.Goals as goal

pub overflow_add-result : goal.overflow_add-result
overflow_add-result c = small_fits _ _ (raised_sum c.args.cost c.ranges.cost c.requires) (raised_is c.args.cost c.requires).1

pub overflow_cast-result : goal.overflow_cast-result
overflow_cast-result c =
    let r = raised_is c.args.cost c.requires in
    subst (λ (z : ℤ). T (non_neg z) × Fits w64 (nat_abs z)) (sym (stored _ _ (raised_sum c.args.cost c.ranges.cost c.requires) r.1))
    (tt, record { fits = omega (arith, r.1) })

pub returns : goal.returns
returns c = ap nat_abs (stored _ _ (raised_sum c.args.cost c.ranges.cost c.requires) (raised_is c.args.cost c.requires).1)
