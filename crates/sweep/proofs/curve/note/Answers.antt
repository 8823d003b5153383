-- `sweep::curve::note` meets its contract. Assumes nothing.
use Rattle.std.proofs.Common.{set, ℤ, refl, ap, ◌∙◌}
use Rattle.problem.proofs.MachineIntegers.{read_back}
use Rattle.sweep.proofs.curve.note.Goals as goal

pub returns : goal.returns
returns c =
    let a = c.args in
    record { split = refl; value = ap (λ (z : ℤ). set a.freights.now a.count z) (read_back _ c.lowered.type_inv ∙ c.lowered.ensures); more = refl }
