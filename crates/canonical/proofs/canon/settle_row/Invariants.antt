-- `canonical::canon::settle_row` meets its contract. Assumes nothing.
use Prim.Native.Nat.{◌-◌}
use Rattle.canonical.proofs.LaneStores.{RowTo}
use Rattle.canonical.proofs.canon.settle_row.Given as goal

abbrev pub invariant-loop-rest : goal.invariant-loop-rest
invariant-loop-rest l =
    RowTo l.lanes.m l.lanes.n l.i l.initial.aside l.initial.free.cap l.initial.load.x l.aside l.free.cap l.load.x l.load.serves l.free.ways l.free.doors l.supplied l.initial.rest l.rest

abbrev pub decreases-loop-rest : goal.decreases-loop-rest
decreases-loop-rest l = l.rest
