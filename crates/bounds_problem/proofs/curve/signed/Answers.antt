-- `bounds_problem::curve::signed` meets its contract.  Assumes nothing.
use mathlib.Core.Path.{sym, ap, ◌∙◌, subst}
use lib.IntN.{ℤ}
use mir.Syntax.{w64}
use mir.Val.{SFits, to_z, of_z}
use mir.ValLaws.{to_z-of_z}
use Rattle.bounds_problem.proofs.HeightLoops.{signed_is, signed_fits}
use Rattle.bounds_problem.proofs.curve.signed.Goals as goal

pub overflow_sub-result : goal.overflow_sub-result
overflow_sub-result c = subst (λ (z : ℤ). SFits w64 z) (sym (signed_is _ c.requires)) (signed_fits _ c.requires)

pub returns : goal.returns
returns c = ap (λ (z : ℤ). to_z w64 (of_z w64 z)) (signed_is _ c.requires) ∙ to_z-of_z w64 _ (signed_fits _ c.requires)
