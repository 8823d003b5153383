-- `canonical::canon::reroute` meets its contract. Assumes nothing.
use mathlib.Core.Path.{◌≡◌}
use lib.ListN.{length}
use Rattle.residual.specs.inner.LanesInUse.{Covers}
use Rattle.reachability.specs.inner.Reachability.{Known}
use Rattle.canonical.specs.inner.Canonize.{Rerouting}
use Rattle.canonical.proofs.canon.reroute.Given as goal

abbrev pub invariant-loop-left : goal.invariant-loop-left
invariant-loop-left l =
    Rerouting l.lanes.m l.lanes.n l.i l.j l.amount l.free.cap l.initial.load.x l.load.x l.left × Covers l.lanes.m l.lanes.n l.load.x l.load.serves × (length l.prev ≡ 96) × Known l.lanes.m l.lanes.n l.i l.j l.load.x l.supplied

abbrev pub decreases-loop-left : goal.decreases-loop-left
decreases-loop-left l = l.left
