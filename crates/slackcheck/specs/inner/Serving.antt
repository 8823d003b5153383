-- The sources that serve each terminal under a plan, source by source. Assumes nothing.
use Rattle.std.specs.Prelude.{◌≡◌, ℕ, ◌^◌, ◌<◌, ◌≤◌, List, length}
use Rattle.residual.specs.inner.Cells.{cells}
use Rattle.residual.specs.inner.Network.{get}
use Rattle.residual.specs.inner.Bits.{bit}

-- a bit where the amount is not 0
pub record Served (amount b r : ℕ) : Type 0 where
  pub some : 0 < amount → r ≡ b
  pub none : amount ≤ 0 → r ≡ 0

-- the sources before i that serve each terminal
pub record ServersTo (m n : ℕ) (x : List ℕ) (i : ℕ) (s : List ℕ) : Type 0 where
  pub long : length s ≡ 64
  pub within : (j : ℕ) → j < n → get s j < 2 ^ m
  pub has : (a j : ℕ) → a < i → j < n → 0 < cells x a j → bit (get s j) a ≡ 1
