-- `slackcheck::check::rows_good` meets its contract. Assumes nothing.
use Rattle.std.proofs.Common.{◌-◌, ◌≤◌}
use Rattle.transport.specs.Curve.{amounts_at}
use Rattle.residual.specs.inner.Cells.{cells}
use Rattle.residual.specs.inner.Network.{get}
use Rattle.slackcheck.specs.inner.Checked.{RowsChecked}
use Rattle.slackcheck.proofs.check.rows_good.Given as goal

abbrev pub invariant-loop-i : goal.invariant-loop-i
invariant-loop-i l = (l.i ≤ l.lanes.m) × RowsChecked l.lanes.n (cells l.lanes.cost.now) (cells l.lanes.cap.now) (cells l.flow.x) l.flow.pot (amounts_at l.made (λ k. get l.supply k) l.split) l.i

abbrev pub decreases-loop-i : goal.decreases-loop-i
decreases-loop-i l = l.lanes.m - l.i
