-- Which sources serve which terminals: bit i of entry j is set for each source i that serves terminal j, and may be for one that did.
-- Source i is node i, terminal j is node 32 + j. Assumes nothing.
use Rattle.std.specs.Prelude.{◌≡◌, List, ℕ, ◌+◌, ◌^◌, ◌≤◌, ◌<◌, length}
use Rattle.residual.specs.inner.Cells.{cells}
use Rattle.residual.specs.inner.Network.{get}
use Rattle.residual.specs.inner.Bits.{bit}

-- s has each source that serves a terminal under the plan x, and sources only
pub record Covers (m n : ℕ) (x s : List ℕ) : Type 0 where
  pub long : length s ≡ 64
  pub within : (j : ℕ) → j < n → get s j < 2 ^ m
  pub serving : (i j : ℕ) → i < m → j < n → 0 < cells x i j → bit (get s j) i ≡ 1

-- v is a node of m sources and n terminals under the plan x, whose lanes in use s has
pub record AtNode (m n : ℕ) (x s : List ℕ) (v : ℕ) : Type 0 where
  pub sources : m ≤ 32
  pub source : v < 32 → v < m
  pub terminal : 32 ≤ v → v < 32 + n
  pub covers : Covers m n x s
