-- `augment::send::lower` meets its contract. Assumes nothing.
use Prim.Native.Nat.{◌-◌}
use native.Mathlib.Omega.{arith}
use Rattle.augment.proofs.Potentials.{lower_start, lower_next, lower_end}
use Rattle.augment.proofs.send.lower.Goals as goal

pub loop-v-init : goal.loop-v-init
loop-v-init c = (omega arith, lower_start c.requires.long)

pub overflow_sub-dist : goal.overflow_sub-dist
overflow_sub-dist c = c.requires.above _ (omega arith)

pub loop-v-preserved : goal.loop-v-preserved
loop-v-preserved c = (omega arith, lower_next c.loop-v.invariant.1 (omega arith) c.min.ensures)

pub returns : goal.returns
returns c = lower_end c.loop-v.invariant.1 (omega arith) (omega arith)
