-- What the check of a plan x with potentials p finds: amounts of the sources, demands of the terminals, every lane slack. Assumes nothing.
use Rattle.std.specs.Prelude.{◌≡◌, ℕ, ◌+◌, ◌%◌, ◌^◌, ◌<◌, ◌≤◌, List, length}
use Rattle.transport.specs.Plan.{Table, row, col}
use Rattle.transport.specs.Curve.{amounts_at}
use Rattle.transport.specs.inner.Slackness.{Lane}
use Rattle.residual.specs.inner.Cells.{cells}
use Rattle.residual.specs.inner.Network.{get}

-- a lane of unit cost c, ceiling u and amount x between potentials p and q: within its ceiling and slack, its amount below 2^20
pub record Good (c u x p q : ℕ) : Type 0 where
  pub under : x ≤ u
  pub few : x ≤ 1048575
  pub slack : Lane c u x p q

-- the difference of two numbers modulo 2^32, where an amount is not 0
pub record Told (amount a b r : ℕ) : Type 0 where
  pub some : 0 < amount → (r + b) % 2 ^ 32 ≡ a

-- the potentials are within the bounds of step 1
pub record Levels (p : List ℕ) : Type 0 where
  pub low : (v : ℕ) → v < 96 → 416000000 ≤ get p v
  pub high : (v : ℕ) → v < 96 → get p v ≤ 800000000

-- what the check asks
pub record CheckReady (m n : ℕ) (c : Table) : Type 0 where
  pub sources : m ≤ 32
  pub terminals : n ≤ 64
  pub costs : (i j : ℕ) → i < m → j < n → c i j ≤ 2000000

-- of one source
pub record RowReady (n : ℕ) (c : Table) (p : List ℕ) (i : ℕ) : Type 0 where
  pub source : i < 32
  pub terminals : n ≤ 64
  pub costs : (j : ℕ) → j < n → c i j ≤ 2000000
  pub high : get p i ≤ 800000000
  pub ends : (j : ℕ) → j < n → get p (32 + j) ≤ 800000000

-- source i sends its amount on good lanes
pub record RowChecked (n : ℕ) (c u x : Table) (p : List ℕ) (i amount : ℕ) : Type 0 where
  pub sent : row n x i ≡ amount
  pub lanes : (j : ℕ) → j < n → Good (c i j) (u i j) (x i j) (get p i) (get p (32 + j))

-- the sources below m do, and the terminals below n get their demands
abbrev pub RowsChecked : ℕ → Table → Table → Table → List ℕ → (ℕ → ℕ) → ℕ → Type 0
RowsChecked n c u x p a m = (i : ℕ) → i < m → RowChecked n c u x p i (a i)

abbrev pub ColumnsChecked : ℕ → Table → List ℕ → ℕ → Type 0
ColumnsChecked m x demand n = (j : ℕ) → j < n → col m x j ≡ get demand (32 + j)

-- what the lanes carry is below 2^20
pub record Few (m n : ℕ) (x : Table) : Type 0 where
  pub sources : m ≤ 32
  pub terminals : n ≤ 64
  pub few : (i j : ℕ) → i < m → j < n → x i j ≤ 1048575

-- what the terminals get from the sources before i
pub record Got (n : ℕ) (x : Table) (i : ℕ) (g : List ℕ) : Type 0 where
  pub long : length g ≡ 64
  pub sums : (j : ℕ) → j < n → get g j ≡ col i x j

-- at split y of what both plants make, d
pub record Checked (m n : ℕ) (cost cap supply demand : List ℕ) (d y : ℕ) (x p : List ℕ) : Type 0 where
  pub levels : Levels p
  pub rows : RowsChecked n (cells cost) (cells cap) (cells x) p (amounts_at d (λ i. get supply i) y) m
  pub columns : ColumnsChecked m (cells x) demand n
