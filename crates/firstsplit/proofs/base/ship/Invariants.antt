-- `firstsplit::base::ship` meets its contract. Assumes nothing.
use Rattle.residual.specs.inner.Network.{net}
use Rattle.firstsplit.specs.inner.Shipment.{Shipped}
use Rattle.residual.specs.inner.LanesInUse.{Covers}
use Rattle.firstsplit.proofs.base.ship.Given as goal

abbrev pub invariant-loop-left : goal.invariant-loop-left
invariant-loop-left l = Shipped (net l.lanes.m l.lanes.n l.lanes.cost.now l.lanes.cap.now l.initial.flow.x) l.initial.room l.start l.amount l.flow.pot l.room l.flow.x l.left × Covers l.lanes.m l.lanes.n l.flow.x l.flow.serves

abbrev pub decreases-loop-left : goal.decreases-loop-left
decreases-loop-left l = l.left
