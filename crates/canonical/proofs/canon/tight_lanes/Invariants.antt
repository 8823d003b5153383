-- `canonical::canon::tight_lanes` meets its contract. Assumes nothing.
use Prim.Native.Nat.{◌-◌, ◌≤◌}
use Rattle.residual.specs.inner.Cells.{cells}
use Rattle.canonical.specs.inner.Canonize.{Tights}
use Rattle.canonical.proofs.canon.tight_lanes.Given as goal

abbrev pub invariant-loop-j : goal.invariant-loop-j
invariant-loop-j l = (l.j ≤ l.lanes.n) × Tights (cells l.lanes.cost.now) l.pot l.i l.j l.all

abbrev pub decreases-loop-j : goal.decreases-loop-j
decreases-loop-j l = l.lanes.n - l.j
