-- `work_edits::costs::cost_in` meets its contract. Assumes nothing.
use mathlib.Core.Path.{sym, ap, ◌∙◌, subst}
use native.Mathlib.Omega.{arith}
use lib.IntN.{ℤ}
use mir.Syntax.{w64}
use mir.Val.{SFits, to_z, of_z}
use mir.ValLaws.{to_z-of_z}
use Rattle.problem.proofs.MachineIntegers.{lowered_is, sub_fits}
use Rattle.work_store.proofs.CostLaws.{cost_low, cost_high}
use Rattle.work_edits.proofs.costs.cost_in.Goals as goal

pub returns-then-cell-gt2000001 : goal.returns-then-cell-gt2000001
returns-then-cell-gt2000001 c = cost_high c.args.cell c.if-cell-gt2000001.true

pub overflow_sub-result : goal.overflow_sub-result
overflow_sub-result c =
    subst (λ (z : ℤ). SFits w64 z) (sym (lowered_is c.args.cell 1000000 (omega (arith, c.if-cell-gt2000001.false)) (omega arith)))
    (sub_fits c.args.cell 1000000 (omega (arith, c.if-cell-gt2000001.false)) (omega arith))

pub returns : goal.returns
returns c =
    ap (λ (z : ℤ). to_z w64 (of_z w64 z)) (lowered_is c.args.cell 1000000 (omega (arith, c.if-cell-gt2000001.false)) (omega arith)) ∙
    to_z-of_z w64 _ (sub_fits c.args.cell 1000000 (omega (arith, c.if-cell-gt2000001.false)) (omega arith)) ∙
    cost_low c.args.cell c.if-cell-gt2000001.false
