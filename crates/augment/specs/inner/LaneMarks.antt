-- The lanes that a walk brings drums on are marked as in use. Assumes nothing.
use Rattle.std.specs.Prelude.{◌≡◌, List, ℕ, zero, suc, ◌-◌, ◌^◌, ◌≤◌, ◌<◌, set}
use Rattle.std.specs.Int.Bits.{bit_or}
use Rattle.residual.specs.inner.Network.{get}

-- h arcs lead back from v over nodes, and over sources below m where they lead to terminals
unfoldable pub Trail : ℕ → List ℕ → ℕ → ℕ → Type 0
Trail m P zero v = Unit {0}
Trail m P (suc h) v = (v < 96) × (get P v < 96) × (32 ≤ v → get P v < m) × Trail m P h (get P v)

-- one arc from w to v brings drums on a lane, or takes them off one
pub record Served (v w : ℕ) (s s' : List ℕ) : Type 0 where
  pub less : v < 32 → s' ≡ s
  pub more : 32 ≤ v → s' ≡ set s (v - 32) (bit_or (get s (v - 32)) (2 ^ w))

-- the last h arcs to v
unfoldable pub Marks : List ℕ → ℕ → ℕ → List ℕ → List ℕ → Type 0
Marks P zero v s s' = s' ≡ s
Marks P (suc h) v s s' = (t : List ℕ) × Served v (get P v) s t × Marks P h (get P v) t s'
