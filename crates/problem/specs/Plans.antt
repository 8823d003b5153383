-- Plans of a case, the freight curve f, the plan for everybody, the total, the best split and the stops. Assumes nothing.
use Rattle.std.specs.Prelude.{◌≡◌, List, map, ℕ, ◌*◌, ◌≤◌, ◌<◌, ℤ, pos, ◌+ℤ◌, length}
use Rattle.transport.specs.Plan.{by_row, row, col, Under, Fits}
use Rattle.transport.specs.Curve.{amounts_at}
use Rattle.problem.specs.Freight.{rates_by_row, freightℤ, least_atℤ, canonicalℤ, stops_ofℤ, best_fromℤ}
use Rattle.problem.specs.Case.{Case, supply, demand, ceiling, entry, made, least_split, greatest_split, steps}

-- what source i sends in the plan x, a list of m × n amounts in row order; of row 0 it is the plan's split
unfoldable pub row_sum : Case → List ℕ → ℕ → ℕ
row_sum c x i = row c.n (by_row c.n x) i

unfoldable pub column_sum : Case → List ℕ → ℕ → ℕ
column_sum c x j = col c.m (by_row c.n x) j

-- freight of a plan: the sum of amount times unit cost
unfoldable pub freight_of : Case → List ℕ → ℤ
freight_of c x = freightℤ c.m c.n (rates_by_row c.n c.costs) (by_row c.n x)

-- a plan that meets (TP), both least runs and every ceiling, judged from the input alone, without ℓ and u
pub record MeetsTP (c : Case) (x : List ℕ) : Type 0 where
  pub cells : length x ≡ c.m * c.n
  pub plant1 : row_sum c x 0 ≤ supply c 0
  pub plant2 : row_sum c x 1 ≤ supply c 1
  pub runs1 : c.run1 ≤ row_sum c x 0
  pub runs2 : c.run2 ≤ row_sum c x 1
  pub depots : (i : ℕ) → 2 ≤ i → i < c.m → row_sum c x i ≡ supply c i
  pub terminals : (j : ℕ) → j < c.n → column_sum c x j ≡ demand c j
  pub lanes : Under c.m c.n (by_row c.n x) (ceiling c)

-- the total of a plan: its freight plus the entry at its own split
unfoldable pub plan_total : Case → List ℕ → ℤ
plan_total c x = freight_of c x +ℤ pos (entry c (row_sum c x 0))

-- a plan at split y, (TP(y)): row 1 sums to y, row 2 to d - y, each depot row to its stock, each column to its demand,
-- and no lane carries more than its ceiling
abbrev pub PlanAt : Case → ℕ → List ℕ → Type 0
PlanAt c y x = Fits c.m c.n (ceiling c) (amounts_at (made c) (λ i. supply c i) y) (λ j. demand c j) x

-- f(y) of (2.5), the least freight of any plan at split y
unfoldable pub least_freight_at : Case → ℕ → ℤ
least_freight_at c y =
    least_atℤ c.m c.n (rates_by_row c.n c.costs) (ceiling c) (made c) (λ i. supply c i) (λ j. demand c j) y

-- the plan for everybody at split y: of the plans of least freight there the one that has the smaller amount at the first lane, in row order, where
-- it differs from another, which is the first of them in the listing
unfoldable pub plan_for : Case → ℕ → List ℕ
plan_for c y =
    canonicalℤ c.m c.n (rates_by_row c.n c.costs) (ceiling c) (amounts_at (made c) (λ i. supply c i) y) (λ j. demand c j)

-- F(y) of (2.6), the total at y
unfoldable pub total_at : Case → ℕ → ℤ
total_at c y = least_freight_at c y +ℤ pos (entry c y)

-- the smallest split of least total
unfoldable pub best_split : Case → ℕ
best_split c = best_fromℤ (total_at c) (least_split c) (steps c)

-- the stops: ℓ, u, and every split strictly between where the slope of f changes; and f at each
unfoldable pub stops : Case → List ℕ
stops c = stops_ofℤ (least_freight_at c) (least_split c) (greatest_split c)

unfoldable pub stop_freights : Case → List ℤ
stop_freights c = map (least_freight_at c) (stops c)
