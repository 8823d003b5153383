-- `canonical::canon::settle` meets its contract. Assumes nothing.
use Prim.Native.Nat.{◌*◌, ◌-◌, ◌≤◌}
use Rattle.reachability.specs.inner.Reachability.{Supplied}
use Rattle.canonical.specs.inner.Canonize.{Onward, Open}
use Rattle.canonical.proofs.canon.settle.Given as goal

abbrev pub invariant-loop-i : goal.invariant-loop-i
invariant-loop-i l =
    (l.i ≤ l.lanes.m) × Onward l.lanes.m l.lanes.n 0 (l.i * 64) l.initial.aside l.initial.free.cap l.initial.load.x l.aside l.free.cap l.load.x × Open l.lanes.m l.lanes.n l.aside l.free.cap l.load.x l.load.serves l.free.ways l.free.doors × Supplied l.lanes.m l.lanes.n 32 l.load.x l.supplied

abbrev pub decreases-loop-i : goal.decreases-loop-i
decreases-loop-i l = l.lanes.m - l.i
