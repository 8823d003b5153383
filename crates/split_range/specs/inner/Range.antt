-- What is asked of a prepared case, and the first and the last split that have a plan within the ceilings. Cell (i, j) of a working array of 2,048 is
-- i · 64 + j. Assumes nothing.
use Rattle.std.specs.Prelude.{◌≡◌, ℕ, ◌+◌, ◌-◌, ◌<◌, ◌≤◌, min, max, List, [], length, slice_index, Option, Some, None}
use Rattle.transport.specs.Sum.{sum}
use Rattle.transport.specs.Plan.{by_row}
use Rattle.transport.specs.Listing.{least, greatest}
use Rattle.transport.specs.Curve.{amounts_at, splits_of}
use Rattle.split_range.specs.inner.Begun.{Begun}
use Rattle.split_range.specs.declared.begin.Range.{Range}

-- the supply of source i, and what terminal j gets
abbrev pub amount_in : List ℕ → ℕ → ℕ
amount_in amounts i = slice_index amounts i

abbrev pub demand_in : List ℕ → ℕ → ℕ
demand_in demand j = slice_index demand (32 + j)

-- a prepared case: the plants' least runs are run0 and run1, and both together make d
pub record BeginReady (m n : ℕ) (cost cap supply demand : List ℕ) (run0 run1 d : ℕ) : Type 0 where
  pub plants : 2 ≤ m
  pub sources : m ≤ 32
  pub terminals : n ≤ 64
  pub long_demand : length demand ≡ 96
  pub quiet : (v : ℕ) → v < 32 → slice_index demand v ≡ 0
  pub costs : (i j : ℕ) → i < m → j < n → by_row 64 cost i j ≤ 2000000
  pub ceilings : (i j : ℕ) → i < m → j < n → by_row 64 cap i j ≤ 4000000000
  pub balance : sum m (amounts_at d (amount_in supply) 0) ≡ sum n (demand_in demand)
  pub few : sum n (demand_in demand) ≤ 256000
  pub first_run : run0 ≤ amount_in supply 0
  pub second_run : run1 ≤ amount_in supply 1
  pub low : run0 + run1 ≤ d
  pub high : d ≤ amount_in supply 0 + amount_in supply 1

-- the range has the least and the greatest split within the supplies and the least runs that have a plan within the ceilings, and the engine can go on
-- from the least; or there are none
pub record Ranged (m n : ℕ) (cost cap supply demand : List ℕ) (run0 run1 d : ℕ) (x serves p : List ℕ) (range : Option Range) : Type 0 where
  pub low : (r : Range) → range ≡ Some r → r.lo ≡ least (splits_of m n (by_row 64 cap) (amount_in supply) (demand_in demand) run0 run1 d)
  pub high : (r : Range) → range ≡ Some r → r.hi ≡ greatest (splits_of m n (by_row 64 cap) (amount_in supply) (demand_in demand) run0 run1 d)
  pub begun : (r : Range) → range ≡ Some r → Begun m n cost cap (amount_in supply) (demand_in demand) d r.lo r.hi x serves p
  pub within : (r : Range) → range ≡ Some r → (r.lo ≤ r.hi) × (max run0 (d - amount_in supply 1) ≤ r.lo) × (r.hi ≤ min (amount_in supply 0) (d - run1))
  pub none : range ≡ None → splits_of m n (by_row 64 cap) (amount_in supply) (demand_in demand) run0 run1 d ≡ []
