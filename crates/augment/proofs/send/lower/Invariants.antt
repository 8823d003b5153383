-- `augment::send::lower` meets its contract. Assumes nothing.
use Prim.Native.Nat.{◌-◌, ◌≤◌}
use Rattle.augment.specs.inner.Potentials.{Lowered}
use Rattle.augment.proofs.send.lower.Given as goal

abbrev pub invariant-loop-v : goal.invariant-loop-v
invariant-loop-v l = (l.v ≤ 96) × Lowered l.gap l.dist l.initial.pot l.v l.pot

abbrev pub decreases-loop-v : goal.decreases-loop-v
decreases-loop-v l = 96 - l.v
