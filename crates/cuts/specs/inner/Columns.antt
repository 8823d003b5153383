-- The unit costs by terminal: the functions that write them. Assumes nothing.
use Rattle.std.specs.Prelude.{◌≡◌, List, ℕ, ◌+◌, ◌*◌, ◌≤◌, ◌<◌, length, get_or}
use Rattle.transport.specs.Plan.{Table}
use Rattle.residual.specs.inner.Cells.{cells}
use Rattle.residual.specs.inner.Network.{get}

-- unit costs that stand by terminal, 32 sources for each
abbrev pub by_terminal : List ℕ → Table
by_terminal l i j = get_or l (j * 32 + i) 0

pub record TransposeReady (m n : ℕ) (cost : List ℕ) : Type 0 where
  pub sources : m ≤ 32
  pub terminals : n ≤ 64
  pub costs : (i j : ℕ) → i < m → j < n → cells cost i j ≤ 200000000

-- the terminals below j have been written, and of terminal j the sources below k
pub record Filled (m : ℕ) (cost : List ℕ) (j k : ℕ) (to : List ℕ) : Type 0 where
  pub long : length to ≡ 2048
  pub most : (v : ℕ) → get to v ≤ 200000000
  pub each : (i t : ℕ) → i < m → t < j → by_terminal to i t ≡ cells cost i t
  pub here : (i : ℕ) → i < k → by_terminal to i j ≡ cells cost i j

-- columns has the unit costs by terminal
pub record Transposed (m n : ℕ) (cost columns : List ℕ) : Type 0 where
  pub long : length columns ≡ 2048
  pub each : (i j : ℕ) → i < m → j < n → by_terminal columns i j ≡ cells cost i j
  pub most : (v : ℕ) → get columns v ≤ 200000000
