-- `slackcheck::check::row_good` meets its contract. Assumes nothing.
use Rattle.std.proofs.Common.{◌-◌}
use Rattle.residual.specs.inner.Cells.{cells}
use Rattle.slackcheck.proofs.Checking.{RowTo}
use Rattle.slackcheck.proofs.check.row_good.Given as goal

abbrev pub invariant-loop-j : goal.invariant-loop-j
invariant-loop-j l = RowTo l.lanes.n (cells l.lanes.cost.now) (cells l.lanes.cap.now) (cells l.flow.x) l.flow.pot l.i l.signs l.all l.sent l.j

abbrev pub decreases-loop-j : goal.decreases-loop-j
decreases-loop-j l = l.lanes.n - l.j
