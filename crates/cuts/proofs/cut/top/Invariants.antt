-- `cuts::cut::top` meets its contract. Assumes nothing.
use Prim.Native.Nat.{◌-◌, ◌≤◌}
use Rattle.cuts.specs.inner.Cut.{Top}
use Rattle.cuts.proofs.cut.top.Given as goal

abbrev pub invariant-loop-v : goal.invariant-loop-v
invariant-loop-v l = (l.v ≤ 96) × Top l.pot l.v l.most

abbrev pub decreases-loop-v : goal.decreases-loop-v
decreases-loop-v l = 96 - l.v
