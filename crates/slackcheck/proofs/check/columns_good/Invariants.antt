-- `slackcheck::check::columns_good` meets its contract. Assumes nothing.
use Rattle.std.proofs.Common.{◌≡◌, ℕ, ◌+◌, ◌-◌, ◌<◌, ◌≤◌}
use Rattle.slackcheck.specs.inner.Checked.{Got}
use Rattle.residual.specs.inner.Network.{get}
use Rattle.residual.specs.inner.Cells.{cells}
use Rattle.slackcheck.proofs.check.columns_good.Given as goal

abbrev pub invariant-loop-j : goal.invariant-loop-j
invariant-loop-j l = (l.j ≤ l.n) × Got l.n (cells l.x) l.m l.got × ((b : ℕ) → b < l.j → get l.got b ≡ get l.demand (32 + b))

abbrev pub decreases-loop-j : goal.decreases-loop-j
decreases-loop-j l = l.n - l.j
