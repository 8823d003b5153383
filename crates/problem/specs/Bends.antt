-- The list of the stops cell by cell: exactly ℓ, u and the splits where the slope of f changes, each a single time. Assumes nothing.
use Rattle.std.specs.Prelude.{◌≡◌, ◌≢◌, List, ℕ, suc, ◌+◌, ◌-◌, ◌≤◌, ◌<◌, ℤ, pos, ◌-ℤ◌, length, get_or}
use Rattle.problem.specs.Case.{Case, least_split, greatest_split}
use Rattle.problem.specs.Plans.{least_freight_at}

-- the slope of f changes at y: f(y+1) - f(y) ≠ f(y) - f(y-1)
abbrev pub Bend : Case → ℕ → Type 0
Bend c y = least_freight_at c (y + 1) -ℤ least_freight_at c y ≢ least_freight_at c y -ℤ least_freight_at c (y - 1)

-- the first `count` cells of the two lent slices: ℓ first, u last, rising and so each a single time, f beside each; a split strictly between
-- ℓ and u is listed if and only if the slope of f changes there; where ℓ = u it is listed once
pub record ListsBends (c : Case) (count : ℕ) (splits : List ℕ) (freights : List ℤ) : Type 0 where
  pub split_cells : count ≤ length splits
  pub freight_cells : count ≤ length freights
  pub some_listed : 0 < count
  pub first : get_or splits 0 0 ≡ least_split c
  pub last : get_or splits (count - 1) 0 ≡ greatest_split c
  pub rises : (k : ℕ) → suc k < count → get_or splits k 0 < get_or splits (suc k) 0
  pub freight : (k : ℕ) → k < count → get_or freights k (pos 0) ≡ least_freight_at c (get_or splits k 0)
  pub listed : (y : ℕ) → least_split c < y → y < greatest_split c → Bend c y → (k : ℕ) × (k < count) × (get_or splits k 0 ≡ y)
  pub only : (k : ℕ) → k < count → least_split c < get_or splits k 0 → get_or splits k 0 < greatest_split c → Bend c (get_or splits k 0)
  pub single : least_split c ≡ greatest_split c → count ≡ 1
