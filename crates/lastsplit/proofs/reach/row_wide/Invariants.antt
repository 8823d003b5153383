-- `lastsplit::reach::row_wide` meets its contract. Assumes nothing.
use mathlib.Core.Path.{◌≡◌}
use Prim.Native.Nat.{ℕ, ◌+◌, ◌-◌, ◌*◌, ◌≤◌, ◌<◌}
use Rattle.residual.specs.inner.Network.{get}
use Rattle.lastsplit.proofs.reach.row_wide.Given as goal

abbrev pub invariant-loop-j : goal.invariant-loop-j
invariant-loop-j l =
    (l.j ≤ 64) × (l.k ≡ l.i * 64) × ((t : ℕ) → t < l.j → 2147483648 ≤ l.all → get l.demand (32 + t) ≤ get l.cap (l.k + t))

abbrev pub decreases-loop-j : goal.decreases-loop-j
decreases-loop-j l = 64 - l.j
