-- `reachability::reach::reach` meets its contract. Assumes nothing.
use mathlib.Core.Path.{◌≡◌}
use Prim.Native.Nat.{◌+◌}
use Rattle.residual.specs.inner.LanesInUse.{Covers}
use Rattle.reachability.specs.inner.Reachability.{Known, Reaching, Shut, Aiming}
use Rattle.reachability.proofs.reach.reach.Given as goal

abbrev pub invariant-loop-front : goal.invariant-loop-front
invariant-loop-front l =
    Reaching l.m l.n l.free l.x l.i l.limit l.front.supplied l.front.terminals l.front.sources l.front.wait l.prev ×
    Shut l.m l.n 32 l.free l.x l.front.terminals l.front.sources l.front.wait × Aiming l.m l.n l.j l.free l.x l.front.terminals l.front.sources ×
    Covers l.m l.n l.x l.serves × Known l.m l.n l.i l.j l.x l.front.supplied × (l.supplied ≡ l.front.supplied)

abbrev pub decreases-loop-front : goal.decreases-loop-front
decreases-loop-front l = l.front.sources + l.front.wait
