-- `cuts::columns::with_room` meets its contract. Assumes nothing.
use Prim.Native.Nat.{◌-◌, ◌≤◌}
use Rattle.cuts.specs.inner.Tables.{Roomy}
use Rattle.cuts.proofs.columns.with_room.Given as goal

abbrev pub invariant-loop-k : goal.invariant-loop-k
invariant-loop-k l = (l.k ≤ 2048) × Roomy l.lanes.cost.now l.lanes.cap.now l.x l.k l.to

abbrev pub decreases-loop-k : goal.decreases-loop-k
decreases-loop-k l = 2048 - l.k
