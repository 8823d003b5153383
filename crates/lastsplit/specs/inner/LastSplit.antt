-- How far drums can go over from plant 2 to plant 1. Assumes nothing.
use Rattle.std.specs.Prelude.{◌≡◌, ℕ, ◌+◌, ◌-◌, ◌<◌, ◌≤◌, List, length}
use Rattle.transport.specs.Plan.{Table, row, col, Under}
use Rattle.transport.specs.inner.AtSplit.{At}
use Rattle.residual.specs.inner.Cells.{cells}
use Rattle.residual.specs.inner.Network.{Net, get, again}
use Rattle.lastsplit.specs.inner.PlantShift.{PlantSlack}

-- no ceiling of the first m sources is below a demand
abbrev pub AllWide : ℕ → List ℕ → List ℕ → Type 0
AllWide m cap demand = (i j : ℕ) → i < m → j < 64 → get demand (32 + j) ≤ cells cap i j

-- there is a plan within the ceilings at a split
pub record Some (m n : ℕ) (u : Table) (a b : ℕ → ℕ) (y z : ℕ) : Type 0 where
  pub plan : Table
  pub at : At m n a b y z plan
  pub under : Under m n plan u

pub record ReachReady (N : Net) (p x : List ℕ) (limit : ℕ) : Type 0 where
  pub plant_slack : PlantSlack N (get p 1) p x
  pub left : limit ≤ row N.n N.x 1

-- r drums have gone over from a plan x within the ceilings u, all that can but for limit
pub record Reached (m n : ℕ) (u x : Table) (limit r : ℕ) : Type 0 where
  pub most : r ≤ limit
  pub end : Some m n u (row n x) (col m x) (row n x 0 + r) (row n x 1 - r)
  pub last : r < limit → (w : Table) (y z : ℕ) → At m n (row n x) (col m x) y z w → Under m n w u → y ≤ row n x 0 + r

-- what is asked of the plan, whatever its lanes cost
pub record LastReady (m n : ℕ) (u : Table) (x : List ℕ) (limit : ℕ) : Type 0 where
  pub plants : 2 ≤ m
  pub sources : m ≤ 32
  pub terminals : n ≤ 64
  pub under : Under m n (cells x) u
  pub ceilings : (i j : ℕ) → i < m → j < n → u i j ≤ 4000000000
  pub long_x : length x ≡ 2048
  pub left : limit ≤ row n (cells x) 1

-- gone drums have gone over, and left x
pub record Reaching (N : Net) (limit : ℕ) (p x : List ℕ) (gone : ℕ) : Type 0 where
  pub plant_slack : PlantSlack (again N x) (get p 1) p x
  pub at : At N.m N.n (row N.n N.x) (col N.m N.x) (row N.n N.x 0 + gone) (row N.n N.x 1 - gone) (cells x)
  pub most : gone ≤ limit
  pub left : limit ≤ row N.n N.x 1
