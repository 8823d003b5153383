-- `paths::search::least_key` meets its contract. Assumes nothing.
use Prim.Native.Nat.{◌-◌, ◌≤◌}
use Rattle.paths.specs.inner.NearestNode.{LeastKey}
use Rattle.paths.proofs.search.least_key.Given as goal

abbrev pub invariant-loop-v : goal.invariant-loop-v
invariant-loop-v l = (l.lo ≤ l.v) × (l.v ≤ l.hi) × LeastKey l.key l.lo l.v l.least

abbrev pub decreases-loop-v : goal.decreases-loop-v
decreases-loop-v l = l.hi - l.v
