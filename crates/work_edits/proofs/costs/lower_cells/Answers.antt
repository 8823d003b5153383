-- `work_edits::costs::lower_cells` meets its contract. The invariant: the first k cells are written. Assumes nothing.
use mathlib.Core.Path.{◌∙◌}
use native.Mathlib.Omega.{arith}
use Rattle.problem.proofs.MachineIntegers.{read_back}
use Rattle.work_store.proofs.RangeCopies.{filling_start, filling_length}
use Rattle.work_store.proofs.CostLaws.{lower_next, lower_fits, lower_end}
use Rattle.work_edits.proofs.costs.lower_cells.Goals as goal

pub loop-k-init : goal.loop-k-init
loop-k-init c = filling_start _ _ _ (lower_fits c.args.source.now _ c.requires)

pub offset_bounds-to-k : goal.offset_bounds-to-k
offset_bounds-to-k c = omega arith

pub bounds-to-k : goal.bounds-to-k
bounds-to-k c =
    omega (arith, c.requires, filling_length _ _ _ (lower_fits c.args.source.now _ c.requires) _ _ c.loop-k.invariant)

pub loop-k-preserved : goal.loop-k-preserved
loop-k-preserved c =
    lower_next c.args.source.now _ _ _ _ c.loop-k.invariant c.requires c.loop-k-test.true (read_back _ c.cost_in.type_inv ∙ c.cost_in.ensures)

pub shape_of-to : goal.shape_of-to
shape_of-to c = filling_length _ _ _ (lower_fits c.args.source.now _ c.requires) _ _ c.loop-k.invariant

pub returns : goal.returns
returns c = lower_end c.args.source.now _ _ _ c.loop-k.invariant c.requires c.loop-k-test.false
