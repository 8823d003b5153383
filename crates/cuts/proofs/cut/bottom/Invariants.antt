-- `cuts::cut::bottom` meets its contract. Assumes nothing.
use Prim.Native.Nat.{◌-◌, ◌≤◌}
use Rattle.cuts.specs.inner.Cut.{Bottom}
use Rattle.cuts.proofs.cut.bottom.Given as goal

abbrev pub invariant-loop-v : goal.invariant-loop-v
invariant-loop-v l = (l.v ≤ 96) × Bottom l.pot l.v l.least

abbrev pub decreases-loop-v : goal.decreases-loop-v
decreases-loop-v l = 96 - l.v
