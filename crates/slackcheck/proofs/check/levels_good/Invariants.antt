-- `slackcheck::check::levels_good` meets its contract. Assumes nothing.
use Rattle.std.proofs.Common.{ℕ, ◌-◌, ◌<◌, ◌≤◌}
use Rattle.residual.specs.inner.Network.{get}
use Rattle.slackcheck.proofs.check.levels_good.Given as goal

abbrev pub invariant-loop-v : goal.invariant-loop-v
invariant-loop-v l = (l.v ≤ 96) × ((k : ℕ) → k < l.v → (416000000 ≤ get l.pot k) × (get l.pot k ≤ 800000000))

abbrev pub decreases-loop-v : goal.decreases-loop-v
decreases-loop-v l = 96 - l.v
