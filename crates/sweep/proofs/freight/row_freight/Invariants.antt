-- `sweep::freight::row_freight` meets its contract. Assumes nothing.
use Rattle.std.proofs.Common.{◌≡◌, ◌-◌, ◌*◌, ◌≤◌}
use Rattle.transport.specs.Sum.{sum}
use Rattle.residual.specs.inner.Cells.{cells}
use Rattle.sweep.proofs.freight.row_freight.Given as goal

abbrev pub invariant-loop-j : goal.invariant-loop-j
invariant-loop-j l = (l.j ≤ l.n) × (l.total ≡ sum l.j (λ j. cells l.cost l.i j * cells l.x l.i j))

abbrev pub decreases-loop-j : goal.decreases-loop-j
decreases-loop-j l = l.n - l.j
