-- `sweep::freight::freight_of` meets its contract. Assumes nothing.
use Rattle.std.proofs.Common.{◌≡◌, ◌-◌, ◌*◌, ◌≤◌}
use Rattle.transport.specs.Sum.{sum}
use Rattle.residual.specs.inner.Cells.{cells}
use Rattle.sweep.proofs.freight.freight_of.Given as goal

abbrev pub invariant-loop-i : goal.invariant-loop-i
invariant-loop-i l = (l.i ≤ l.lanes.m) × (l.total ≡ sum l.i (λ i. sum l.lanes.n (λ j. cells l.lanes.cost.now i j * cells l.x i j)))

abbrev pub decreases-loop-i : goal.decreases-loop-i
decreases-loop-i l = l.lanes.m - l.i
