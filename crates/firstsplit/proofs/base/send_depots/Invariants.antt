-- `firstsplit::base::send_depots` meets its contract. Assumes nothing.
use Prim.Native.Nat.{◌-◌, ◌≤◌}
use Rattle.residual.specs.inner.Network.{net}
use Rattle.firstsplit.specs.inner.FirstPlan.{Based}
use Rattle.residual.specs.inner.LanesInUse.{Covers}
use Rattle.firstsplit.proofs.base.send_depots.Given as goal

abbrev pub invariant-loop-k : goal.invariant-loop-k
invariant-loop-k l =
    (l.k ≤ l.m - 2) × Based (net l.lanes.m l.lanes.n l.lanes.cost.now l.lanes.cap.now l.initial.flow.x) l.supply l.initial.room l.k l.flow.pot l.room l.flow.x × Covers l.lanes.m l.lanes.n l.flow.x l.flow.serves

abbrev pub decreases-loop-k : goal.decreases-loop-k
decreases-loop-k l = l.k-end - l.k
