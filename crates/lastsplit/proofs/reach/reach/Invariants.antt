-- `lastsplit::reach::reach` meets its contract. Assumes nothing.
use Prim.Native.Nat.{◌-◌}
use Rattle.residual.specs.inner.Network.{net}
use Rattle.lastsplit.specs.inner.LastSplit.{Reaching}
use Rattle.residual.specs.inner.LanesInUse.{Covers}
use Rattle.lastsplit.proofs.reach.reach.Given as goal

abbrev pub invariant-loop-gone : goal.invariant-loop-gone
invariant-loop-gone l =
    Reaching (net l.lanes.m l.lanes.n l.lanes.cost.now l.lanes.cap.now l.initial.flow.x) l.limit l.flow.pot l.flow.x l.gone × Covers l.lanes.m l.lanes.n l.flow.x l.flow.serves

abbrev pub decreases-loop-gone : goal.decreases-loop-gone
decreases-loop-gone l = l.limit - l.gone
