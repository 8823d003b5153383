-- `canonical::canon::part` meets its contract. Assumes nothing.
use Prim.Native.Nat.{◌*◌, ◌-◌, ◌≤◌}
use Rattle.residual.specs.inner.Cells.{cells}
use Rattle.canonical.specs.inner.Canonize.{bare, Kept, PartedTo}
use Rattle.canonical.proofs.canon.part.Given as goal

abbrev pub invariant-loop-i : goal.invariant-loop-i
invariant-loop-i l =
    (l.i ≤ l.lanes.m) × PartedTo (bare l.lanes.m l.lanes.n (cells l.lanes.cost.now) (cells l.lanes.cap.now)) l.pot (l.i * 64) l.plan l.free.cap l.load.x l.load.serves l.free.ways l.free.doors × Kept l.initial.plan l.initial.load.x l.plan l.load.x

abbrev pub decreases-loop-i : goal.decreases-loop-i
decreases-loop-i l = l.lanes.m - l.i
