-- `cuts::cut::lowest` meets its contract. Assumes nothing.
use Prim.Native.Nat.{◌-◌, ◌≤◌}
use Rattle.cuts.specs.inner.Cut.{LowTo}
use Rattle.cuts.proofs.cut.lowest.Given as goal

abbrev pub invariant-loop-b : goal.invariant-loop-b
invariant-loop-b l =
    (l.b ≤ 32) × LowTo l.part l.at l.low l.weight l.b l.far

abbrev pub decreases-loop-b : goal.decreases-loop-b
decreases-loop-b l =
    32 - l.b
