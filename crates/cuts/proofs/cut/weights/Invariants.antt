-- `cuts::cut::weights` meets its contract. Assumes nothing.
use Prim.Native.Nat.{◌-◌, ◌≤◌}
use Rattle.cuts.specs.inner.Cut.{Weighed}
use Rattle.cuts.proofs.cut.weights.Given as goal

abbrev pub invariant-loop-v : goal.invariant-loop-v
invariant-loop-v l = (32 ≤ l.v) × (l.v ≤ 96) × Weighed l.pot l.v l.weight

abbrev pub decreases-loop-v : goal.decreases-loop-v
decreases-loop-v l = 96 - l.v
