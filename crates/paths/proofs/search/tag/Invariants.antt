-- `paths::search::tag` meets its contract. Assumes nothing.
use Prim.Native.Nat.{◌-◌}
use Rattle.paths.specs.inner.NodeTags.{Tagging}
use Rattle.paths.proofs.search.tag.Given as goal

abbrev pub invariant-loop-v : goal.invariant-loop-v
invariant-loop-v l = Tagging l.room l.demand l.full l.want l.v

abbrev pub decreases-loop-v : goal.decreases-loop-v
decreases-loop-v l = 96 - l.v
