-- `csv_print::magnitude` meets its contract. Assumes nothing.
use mathlib.Core.Path.{sym, ap, ◌∙◌, subst}
use Prim.Native.Nat.{◌+◌}
use native.Mathlib.Omega.{arith}
use lib.IntN.{ℤ, nat_abs}
use mir.Syntax.{w64}
use mir.Val.{SFits}
use Rattle.csv_print.proofs.PrintedSigns.{flipped, plain, as_pos, cast_fits}
use Rattle.csv_print.proofs.magnitude.Goals as goal

pub overflow_sub-result : goal.overflow_sub-result
overflow_sub-result c = subst (λ (z : ℤ). SFits w64 z) (sym (flipped c.args.v c.ranges.v c.if-v-lt0.true).0) (record { sfits = c.ranges.v.sfits })

pub overflow_cast-result : goal.overflow_cast-result
overflow_cast-result c = let g = flipped c.args.v c.ranges.v c.if-v-lt0.true in cast_fits _ _ (as_pos _ _ g.0 c.ranges.v.sfits) c.ranges.v.sfits

pub overflow_add-result : goal.overflow_add-result
overflow_add-result c = let g = flipped c.args.v c.ranges.v c.if-v-lt0.true in omega (arith, ap nat_abs (as_pos _ _ g.0 c.ranges.v.sfits), c.ranges.v.sfits)

pub returns-then-v-lt0 : goal.returns-then-v-lt0
returns-then-v-lt0 c = let g = flipped c.args.v c.ranges.v c.if-v-lt0.true in ap (λ (z : ℤ). nat_abs z + 1) (as_pos _ _ g.0 c.ranges.v.sfits) ∙ g.1

pub overflow_cast-result-2 : goal.overflow_cast-result-2
overflow_cast-result-2 c = let g = plain c.args.v c.ranges.v c.if-v-lt0.false in cast_fits _ _ g.0 g.1
