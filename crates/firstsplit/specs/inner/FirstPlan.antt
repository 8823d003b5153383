-- Step 1, source by source: the depots send their stock, then the plants, up to a cheapest plan at the first split. Assumes nothing.
use Rattle.std.specs.Prelude.{◌≡◌, Option, Bool, true, false, List, ℕ, ◌+◌, ◌-◌, ◌≤◌, ◌<◌, length}
use Rattle.std.specs.Option.{MatchOption}
use Rattle.transport.specs.Plan.{Table, row, col, Under}
use Rattle.transport.specs.inner.AtSplit.{Same, At}
use Rattle.residual.specs.inner.Cells.{cells}
use Rattle.residual.specs.inner.Network.{Net, get, again}
use Rattle.firstsplit.specs.inner.Shipment.{Stocked}

pub record BaseReady (N : Net) (room x : List ℕ) : Type 0 where
  pub sources : N.m ≤ 32
  pub terminals : N.n ≤ 64
  pub costs : (i j : ℕ) → i < N.m → j < N.n → N.c i j ≤ 2000000
  pub ceilings : (i j : ℕ) → i < N.m → j < N.n → N.u i j ≤ 4000000000
  pub long_x : length x ≡ 2048
  pub long_room : length room ≡ 96
  pub blank : (i j : ℕ) → i < N.m → j < N.n → N.x i j ≡ 0
  pub quiet : (v : ℕ) → v < 32 → get room v ≡ 0

-- the last k sources have sent their amounts
pub record Based (N : Net) (amounts room : List ℕ) (k : ℕ) (p' room' x' : List ℕ) : Type 0 where
  pub stocked : Stocked (again N x') p' room' x'
  pub rows : (i : ℕ) → i < N.m → N.m ≤ i + k → row N.n (cells x') i ≡ get amounts i
  pub rest : (i : ℕ) → i + k < N.m → row N.n (cells x') i ≡ 0
  pub cols : (j : ℕ) → j < N.n → col N.m (cells x') j + get room' (32 + j) ≡ get room (32 + j)

-- the depots have sent their stock, plant 1 has sent y and plant 2 z; a has the stocks, room the demands
pub record Sending (N : Net) (a : ℕ → ℕ) (room : List ℕ) (y z : ℕ) (p' room' x' : List ℕ) : Type 0 where
  pub stocked : Stocked (again N x') p' room' x'
  pub plant0 : row N.n (cells x') 0 ≡ y
  pub plant1 : row N.n (cells x') 1 ≡ z
  pub depots : Same 2 N.m (row N.n (cells x')) a
  pub cols : (j : ℕ) → j < N.n → col N.m (cells x') j + get room' (32 + j) ≡ get room (32 + j)

-- the depots have, or no plan within the ceilings has them do so
pub record DepotsDone (N : Net) (supply room p' room' x' : List ℕ) (done : Bool) : Type 0 where
  pub sending : done ≡ true → Sending N (λ i. get supply i) room 0 0 p' room' x'
  pub stuck : done ≡ false → (w : Table) (y z : ℕ) → At N.m N.n (λ i. get supply i) (λ j. get room (32 + j)) y z w → Under N.m N.n w N.u → ⊥

-- plant 1 may make y and plant 2 z: within the supplies and the least runs, and d together
pub record Admitted (a : ℕ → ℕ) (run0 run1 d y z : ℕ) : Type 0 where
  pub low0 : run0 ≤ y
  pub high0 : y ≤ a 0
  pub low1 : run1 ≤ z
  pub high1 : z ≤ a 1
  pub whole : y + z ≡ d

-- what the plants' step asks
pub record PlantsReady (a : ℕ → ℕ) (run0 run1 d : ℕ) : Type 0 where
  pub first_run : run0 ≤ a 0
  pub second_run : run1 ≤ a 1
  pub low : run0 + run1 ≤ d
  pub high : d ≤ a 0 + a 1

-- all have sent, and no plan within the ceilings has a smaller split
pub record FirstSent (N : Net) (a : ℕ → ℕ) (room : List ℕ) (run0 run1 d : ℕ) (p' room' x' : List ℕ) (split : ℕ) : Type 0 where
  pub sending : Sending N a room split (d - split) p' room' x'
  pub admitted : Admitted a run0 run1 d split (d - split)
  pub least : (w : Table) (y z : ℕ) → Admitted a run0 run1 d y z → At N.m N.n a (λ j. get room (32 + j)) y z w → Under N.m N.n w N.u → split ≤ y

-- no plan within the ceilings
abbrev pub NonePlanned : Net → (ℕ → ℕ) → List ℕ → ℕ → ℕ → ℕ → Type 0
NonePlanned N a room run0 run1 d = (w : Table) (y z : ℕ) → Admitted a run0 run1 d y z → At N.m N.n a (λ j. get room (32 + j)) y z w → Under N.m N.n w N.u → ⊥

-- what is answered: the first split, at which all have sent; or that there is no plan
pub record FirstDone (N : Net) (a : ℕ → ℕ) (room : List ℕ) (run0 run1 d : ℕ) (p' room' x' : List ℕ) (split : Option ℕ) : Type 0 where
  pub cases : MatchOption split (NonePlanned N a room run0 run1 d) (λ y. FirstSent N a room run0 run1 d p' room' x' y)

-- the same, whatever demands are unmet
pub record FirstPlan (N : Net) (a : ℕ → ℕ) (room : List ℕ) (run0 run1 d : ℕ) (p' x' : List ℕ) (split : Option ℕ) : Type 0 where
  pub unmet : List ℕ
  pub done : FirstDone N a room run0 run1 d p' unmet x' split
