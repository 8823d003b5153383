-- The potentials after a search: each is lowered by what its node is nearer than the goal. Assumes nothing.
use Rattle.std.specs.Prelude.{◌≡◌, List, ℕ, min, ◌-◌, ◌≤◌, ◌<◌, length}
use Rattle.residual.specs.inner.Network.{get}

pub record LowerReady (D : ℕ) (T p : List ℕ) : Type 0 where
  pub long : length p ≡ 96
  pub above : (v : ℕ) → v < 96 → D ≤ get T v

-- the potentials below k are lowered
pub record Lowered (D : ℕ) (T p : List ℕ) (k : ℕ) (p' : List ℕ) : Type 0 where
  pub long : length p' ≡ 96
  pub down : (v : ℕ) → v < k → get p' v ≡ min (get p v) (get T v - D)
  pub rest : (v : ℕ) → k ≤ v → get p' v ≡ get p v
