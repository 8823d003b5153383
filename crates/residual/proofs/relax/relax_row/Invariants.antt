-- `residual::relax::relax_row` meets its contract. Assumes nothing.
use Prim.Native.Nat.{ℕ, ◌+◌, ◌-◌, ◌≤◌, ◌<◌}
use Rattle.residual.specs.inner.Network.{net}
use Rattle.residual.specs.inner.Labels.{Relabelling}
use Rattle.residual.specs.inner.Keys.{Rekeyed}
use Rattle.residual.proofs.relax.relax_row.Given as goal

abbrev pub invariant-loop-j : goal.invariant-loop-j
invariant-loop-j l =
    (l.j ≤ l.lanes.n) × ((m : ℕ) → l.i < m → m ≤ 32 → Relabelling (net m l.lanes.n l.lanes.cost.now l.lanes.cap.now l.flow.x) l.i l.base 32 (32 + l.j) l.initial.dist l.initial.prev l.dist l.prev × Rekeyed (net m l.lanes.n l.lanes.cost.now l.lanes.cap.now l.flow.x) l.want l.i l.flow.pot l.initial.dist l.dist l.initial.key l.key)

abbrev pub decreases-loop-j : goal.decreases-loop-j
decreases-loop-j l = l.lanes.n - l.j
