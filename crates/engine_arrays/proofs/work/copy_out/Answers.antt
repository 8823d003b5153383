-- `engine_arrays::work::copy_out` meets its contract. The invariant: the first k cells are copied. Assumes nothing.
use Prim.Native.Nat.{◌-◌}
use native.Mathlib.Omega.{arith}
use Rattle.engine_arrays.proofs.CellCopies.{copy_start, copy_next, copy_end}
use Rattle.engine_arrays.proofs.work.copy_out.Goals as goal

pub loop-k-init : goal.loop-k-init
loop-k-init c = copy_start _ _ _

pub bounds-to-at : goal.bounds-to-at
bounds-to-at c = omega (arith, c.loop-k.invariant.long)

pub loop-k-preserved : goal.loop-k-preserved
loop-k-preserved c = copy_next c.loop-k.invariant c.loop-k-test.true (omega arith)

pub shape_of-to : goal.shape_of-to
shape_of-to c = c.loop-k.invariant.long

pub returns : goal.returns
returns c = copy_end c.loop-k.invariant c.loop-k-test.false
