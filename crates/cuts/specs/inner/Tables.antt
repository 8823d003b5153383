-- The tables of a cut, by source and by terminal: the unit costs of the lanes with room. They follow the plan. Assumes nothing.
use Rattle.std.specs.Prelude.{◌≡◌, Bool, false, List, ℕ, ◌+◌, ◌-◌, ◌*◌, ◌≤◌, ◌<◌, length, set}
use Rattle.residual.specs.inner.Cells.{cells}
use Rattle.residual.specs.inner.Network.{get}
use Rattle.cuts.specs.inner.Columns.{by_terminal}

-- what stands in the tables for a lane: no more than its unit cost, where it has room
pub record Fresh (cost cap x r : ℕ) : Type 0 where
  pub room : x < cap → r ≤ cost
  pub most : r ≤ 200000000

-- the cells below k have been written
pub record Roomy (cost cap x : List ℕ) (k : ℕ) (to : List ℕ) : Type 0 where
  pub long : length to ≡ 2048
  pub each : (v : ℕ) → v < k → Fresh (get cost v) (get cap v) (get x v) (get to v)

-- the tables for the plan x. Where ceilings are wide the table by source is not used, and that by terminal is right for every plan.
pub record Tables (wide : Bool) (m n : ℕ) (cost cap x ahead columns : List ℕ) : Type 0 where
  pub sources : m ≤ 32
  pub terminals : n ≤ 64
  pub long : length x ≡ 2048
  pub long_ahead : length ahead ≡ 2048
  pub long_columns : length columns ≡ 2048
  pub most : wide ≡ false → (i j : ℕ) → i < m → j < n → cells ahead i j ≤ 200000000
  pub columns_most : (v : ℕ) → get columns v ≤ 200000000
  pub by_source : wide ≡ false → (i j : ℕ) → i < m → j < n → cells x i j < cells cap i j → cells ahead i j ≤ cells cost i j
  pub by_terminal_lem : (i j : ℕ) → i < m → j < n → (wide ≡ false → cells x i j < cells cap i j) → by_terminal columns i j ≤ cells cost i j

-- the lane from source i to terminal j has been written anew
pub record Written (i j : ℕ) (cost cap x ahead columns ahead' columns' : List ℕ) : Type 0 where
  pub cell : ℕ
  pub fresh : Fresh (get cost (i * 64 + j)) (get cap (i * 64 + j)) (get x (i * 64 + j)) cell
  pub row : ahead' ≡ set ahead (i * 64 + j) cell
  pub column : columns' ≡ set columns (j * 32 + i) cell

-- nodes v and w are a source and a terminal
pub record LaneEnds (v w : ℕ) : Type 0 where
  pub source : v < 32 → (32 ≤ w) × (w < 96)
  pub terminal : 32 ≤ v → (w < 32) × (v < 96)

-- the lane of the arc from w to v has been written anew
pub record Renewed (v w : ℕ) (cost cap x ahead columns ahead' columns' : List ℕ) : Type 0 where
  pub less : v < 32 → Written v (w - 32) cost cap x ahead columns ahead' columns'
  pub more : 32 ≤ v → Written w (v - 32) cost cap x ahead columns ahead' columns'
