-- `slackcheck::check::column_sums` meets its contract. Assumes nothing.
use Rattle.std.proofs.Common.{◌-◌, ◌≤◌}
use Rattle.slackcheck.specs.inner.Checked.{Got}
use Rattle.residual.specs.inner.Cells.{cells}
use Rattle.slackcheck.proofs.check.column_sums.Given as goal

abbrev pub invariant-loop-i : goal.invariant-loop-i
invariant-loop-i l = (l.i ≤ l.m) × Got l.n (cells l.x) l.i l.got

abbrev pub decreases-loop-i : goal.decreases-loop-i
decreases-loop-i l = l.m - l.i
