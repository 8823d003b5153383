-- `cuts::cut::place` meets its contract. Assumes nothing.
use Prim.Native.Nat.{◌-◌, ◌≤◌}
use Rattle.cuts.proofs.cut.place.Given as goal

abbrev pub invariant-loop-b : goal.invariant-loop-b
invariant-loop-b l =
    l.b ≤ 32

abbrev pub decreases-loop-b : goal.decreases-loop-b
decreases-loop-b l =
    32 - l.b
