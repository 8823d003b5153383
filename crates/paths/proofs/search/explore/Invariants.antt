-- `paths::search::explore` meets its contract. Assumes nothing.
use Prim.Native.Nat.{ℕ, ◌-◌, ◌<◌}
use Rattle.residual.specs.inner.Network.{net}
use Rattle.paths.specs.inner.Search.{Labelling}
use Rattle.paths.proofs.search.explore.Given as goal

abbrev pub invariant-loop-pass : goal.invariant-loop-pass
invariant-loop-pass l =
    (limit : ℕ) → 0 < limit → Labelling (net l.lanes.m l.lanes.n l.lanes.cost.now l.lanes.cap.now l.flow.x) l.flow.pot l.room l.start limit l.dist l.prev l.key l.next l.pass

abbrev pub decreases-loop-pass : goal.decreases-loop-pass
decreases-loop-pass l = 96 - l.pass
