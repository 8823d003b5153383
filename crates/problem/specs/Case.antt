-- The lent case, and d, ℓ and u of (2.4). Sources and terminals are counted from 0 here and from 1 in the report: sources 0 and 1 are the plants,
-- the others the depots. Assumes nothing.
use Rattle.std.specs.Prelude.{List, ℕ, ◌+◌, ◌-◌, max, min, ℤ, get_or, Bool}
use Rattle.transport.specs.Sum.{sum}
use Rattle.transport.specs.Plan.{Table, by_row}
use Rattle.transport.specs.Listing.{least, greatest, some}
use Rattle.transport.specs.Curve.{splits_in}

-- what is lent: m and n, the least runs of the two plants, the five slices that are read, and how many cells the three slices to be written have
pub record Case : Type 0 where
  pub m : ℕ
  pub n : ℕ
  pub run1 : ℕ
  pub run2 : ℕ
  pub costs : List ℤ
  pub supplies : List ℕ
  pub demands : List ℕ
  pub ceilings : List ℕ
  pub table : List ℕ
  pub plan_cells : ℕ
  pub split_cells : ℕ
  pub freight_cells : ℕ

-- the case that is lent by these numbers and slices
abbrev pub lent : ℕ → ℕ → ℕ → ℕ → List ℤ → List ℕ → List ℕ → List ℕ → List ℕ → ℕ → ℕ → ℕ → Case
lent m n run1 run2 costs supplies demands ceilings table plan splits freights = record {
  m = m;
  n = n;
  run1 = run1;
  run2 = run2;
  costs = costs;
  supplies = supplies;
  demands = demands;
  ceilings = ceilings;
  table = table;
  plan_cells = plan;
  split_cells = splits;
  freight_cells = freights;
}

-- supply a_i: for a plant the most it can make, for a depot the stock that must all leave
abbrev pub supply : Case → ℕ → ℕ
supply c i = get_or c.supplies i 0

-- demand b_j
abbrev pub demand : Case → ℕ → ℕ
demand c j = get_or c.demands j 0

-- entry y of the production table: the cost of both plants together when plant 1 makes y and plant 2 the rest
abbrev pub entry : Case → ℕ → ℕ
entry c y = get_or c.table y 0

unfoldable pub all_demand : Case → ℕ
all_demand c = sum c.n (λ j. demand c j)

unfoldable pub depot_stock : Case → ℕ
depot_stock c = sum (c.m - 2) (λ k. supply c (2 + k))

-- d of (2.4), all demands minus all depot stock. A difference below 0 is 0 here; refusal 7 is judged before d is used.
unfoldable pub made : Case → ℕ
made c = all_demand c - depot_stock c

-- the ceiling of lane (i, j): no plan sends more along it
abbrev pub ceiling : Case → Table
ceiling c = by_row c.n c.ceilings

-- within the supplies and the least runs: from the larger of r_1 and d - a_2 to the smaller of a_1 and d - r_2
unfoldable pub lowest_split : Case → ℕ
lowest_split c = max c.run1 (made c - supply c 1)

unfoldable pub highest_split : Case → ℕ
highest_split c = min (supply c 0) (made c - c.run2)

-- the splits: those at which there is a plan within the ceilings
unfoldable pub splits : Case → List ℕ
splits c = splits_in c.m c.n (ceiling c) (made c) (λ i. supply c i) (λ j. demand c j) (lowest_split c) (highest_split c)

-- is there one?
unfoldable pub has_split : Case → Bool
has_split c = some (splits c)

-- ℓ and u, the least and the greatest of them
unfoldable pub least_split : Case → ℕ
least_split c = least (splits c)

unfoldable pub greatest_split : Case → ℕ
greatest_split c = greatest (splits c)

-- how many steps lead from ℓ to u: there is one split more
unfoldable pub steps : Case → ℕ
steps c = greatest_split c - least_split c
