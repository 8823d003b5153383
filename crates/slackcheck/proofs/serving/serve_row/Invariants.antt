-- `slackcheck::serving::serve_row` meets its contract. Assumes nothing.
use Rattle.std.proofs.Common.{ℕ, ◌-◌, ◌<◌}
use Rattle.slackcheck.specs.inner.Serving.{ServersTo}
use Rattle.slackcheck.proofs.Checking.{ServedTo}
use Rattle.slackcheck.proofs.serving.serve_row.Given as goal

abbrev pub invariant-loop-j : goal.invariant-loop-j
invariant-loop-j l = (m : ℕ) → l.i < m → ServersTo m l.n l.x l.i l.initial.serves → ServedTo m l.n l.x l.i l.j l.serves

abbrev pub decreases-loop-j : goal.decreases-loop-j
decreases-loop-j l = l.n - l.j
