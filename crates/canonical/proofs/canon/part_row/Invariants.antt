-- `canonical::canon::part_row` meets its contract. Assumes nothing.
use Prim.Native.Nat.{◌-◌}
use Rattle.residual.specs.inner.Cells.{cells}
use Rattle.canonical.specs.inner.Canonize.{bare}
use Rattle.canonical.proofs.LaneStores.{Freeing}
use Rattle.canonical.proofs.canon.part_row.Given as goal

abbrev pub invariant-loop-rest : goal.invariant-loop-rest
invariant-loop-rest l =
    Freeing (bare l.lanes.m l.lanes.n (cells l.lanes.cost.now) (cells l.lanes.cap.now)) l.pot l.i l.initial.plan l.initial.load.x l.plan l.free.cap l.load.x l.load.serves l.free.ways l.free.doors l.all l.rest

abbrev pub decreases-loop-rest : goal.decreases-loop-rest
decreases-loop-rest l = l.rest
