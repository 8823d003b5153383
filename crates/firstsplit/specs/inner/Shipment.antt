-- What is kept between sends to terminals with unmet demand, and what the shipment of one source does. Assumes nothing.
use Rattle.std.specs.Prelude.{◌≡◌, ◌≢◌, List, ℕ, ◌+◌, ◌≤◌, ◌<◌, length}
use Rattle.transport.specs.Plan.{row, col, Under}
use Rattle.residual.specs.inner.Cells.{cells}
use Rattle.residual.specs.inner.Network.{Net, get, again}
use Rattle.paths.specs.inner.Search.{Sound, Stuck}

-- a slack plan x of N, its potentials and the unmet demands: a terminal with unmet demand still has its first potential
pub record Stocked (N : Net) (p room x : List ℕ) : Type 0 where
  pub sound : Sound N p
  pub under : Under N.m N.n N.x N.u
  pub ceilings : (i j : ℕ) → i < N.m → j < N.n → N.u i j ≤ 4000000000
  pub long_x : length x ≡ 2048
  pub long_p : length p ≡ 96
  pub long_room : length room ≡ 96
  pub home : (v : ℕ) → v < 96 → 0 < get room v → get p v ≡ 800000000
  pub floor : (v : ℕ) → v < 96 → 416000000 ≤ get p v
  pub quiet : (v : ℕ) → v < 32 → get room v ≡ 0

-- what a terminal gets and its unmet demand are no more than its demand
abbrev pub Short : Net → List ℕ → List ℕ → Type 0
Short N room demand = (j : ℕ) → j < N.n → col N.m N.x j + get room (32 + j) ≤ get demand (32 + j)

abbrev pub Asked : ℕ → List ℕ → List ℕ → Type 0
Asked n room demand = (j : ℕ) → j < n → get room (32 + j) ≤ get demand (32 + j)

-- from N and room to x' and room', amount less left went out of s
pub record Shipped (N : Net) (room : List ℕ) (s amount : ℕ) (p' room' x' : List ℕ) (left : ℕ) : Type 0 where
  pub stocked : Stocked (again N x') p' room' x'
  pub rows : (i : ℕ) → i < N.m → i ≢ s → row N.n (cells x') i ≡ row N.n N.x i
  pub own : row N.n (cells x') s + left ≡ row N.n N.x s + amount
  pub cols : (j : ℕ) → j < N.n → col N.m (cells x') j + get room' (32 + j) ≡ col N.m N.x j + get room (32 + j)
  pub less : (v : ℕ) → v < 96 → get room' v ≤ get room v
  pub most : left ≤ amount

pub record NoWay (N : Net) (room : List ℕ) (s : ℕ) : Type 0 where
  pub labels : List ℕ
  pub stuck : Stuck N room s labels

pub record ShipDone (N : Net) (room : List ℕ) (s amount : ℕ) (p' room' x' : List ℕ) (left : ℕ) : Type 0 where
  pub shipped : Shipped N room s amount p' room' x' left
  pub none : 0 < left → NoWay (again N x') room' s
