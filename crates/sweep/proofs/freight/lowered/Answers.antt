-- `sweep::freight::lowered` meets its contract. Assumes nothing.
use Rattle.std.proofs.Common.{ℤ, sym, ap, ◌∙◌, subst, w64, SFits, to_z, of_z}
use mir.ValLaws.{to_z-of_z}
use Rattle.problem.proofs.MachineIntegers.{lowered_is, sub_fits}
use Rattle.sweep.proofs.freight.lowered.Goals as goal

pub overflow_sub-result : goal.overflow_sub-result
overflow_sub-result c = subst (λ (z : ℤ). SFits w64 z) (sym (lowered_is _ _ c.requires.0 c.requires.1)) (sub_fits _ _ c.requires.0 c.requires.1)

pub returns : goal.returns
returns c = ap (λ (z : ℤ). to_z w64 (of_z w64 z)) (lowered_is _ _ c.requires.0 c.requires.1) ∙ to_z-of_z w64 _ (sub_fits _ _ c.requires.0 c.requires.1)
