-- `slackcheck::check::add_row` meets its contract. Assumes nothing.
use Rattle.std.proofs.Common.{◌-◌}
use Rattle.residual.specs.inner.Cells.{cells}
use Rattle.slackcheck.proofs.Checking.{AddedTo}
use Rattle.slackcheck.proofs.check.add_row.Given as goal

abbrev pub invariant-loop-j : goal.invariant-loop-j
invariant-loop-j l = AddedTo l.n (cells l.x) l.i l.j l.got

abbrev pub decreases-loop-j : goal.decreases-loop-j
decreases-loop-j l = l.n - l.j
