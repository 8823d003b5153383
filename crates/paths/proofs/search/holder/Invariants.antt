-- `paths::search::holder` meets its contract. Assumes nothing.
use Prim.Native.Nat.{◌-◌}
use Rattle.paths.specs.inner.NearestNode.{Held}
use Rattle.paths.proofs.search.holder.Given as goal

abbrev pub invariant-loop-v : goal.invariant-loop-v
invariant-loop-v l = Held l.key l.v 96 l.least

abbrev pub decreases-loop-v : goal.decreases-loop-v
decreases-loop-v l = 96 - l.v
