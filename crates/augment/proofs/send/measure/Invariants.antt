-- `augment::send::measure` meets its contract. Assumes nothing.
use Prim.Native.Nat.{◌-◌}
use Rattle.augment.specs.inner.PathMeasure.{Measuring}
use Rattle.augment.proofs.send.measure.Given as goal

abbrev pub invariant-loop-v : goal.invariant-loop-v
invariant-loop-v l = Measuring l.prev l.x l.cap l.start l.goal l.limit l.v l.count l.amount

abbrev pub decreases-loop-v : goal.decreases-loop-v
decreases-loop-v l = 96 - l.count
