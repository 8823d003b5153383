-- The definitions without lane ceilings: splits, freights, the plan for everybody, stops, refusals and outcome of a case whose ceilings are not looked at.
-- Assumes nothing.
use mathlib.Core.Path.{◌≡◌}
use mathlib.Core.Bool.{◌||◌}
use mathlib.Core.Option.{Option, none, some}
use mathlib.Core.List.{List, map}
use Prim.Native.Nat.{ℕ, max, min, ◌+◌, ◌-◌, ◌*◌, ◌≤◌, ◌<◌}
use lib.Dec.{ltb}
use lib.IntN.{ℤ, pos, ◌+ℤ◌}
use lib.ListN.{length}
use Rattle.transport.specs.Plan.{by_row}
use Rattle.transport.specs.Listing.{listing, select}
use Rattle.transport.specs.Curve.{amounts_at}
use Rattle.transport.specs.Canonical.{first}
use Rattle.problem.specs.Integer.{eq_z, leastℤ}
use Rattle.problem.specs.Freight.{rates_by_row, freightℤ, stops_ofℤ, best_fromℤ}
use Rattle.problem.specs.Case.{Case, supply, demand, entry, made}
use Rattle.problem.specs.Plans.{row_sum, column_sum}
use Rattle.problem.specs.Outcome.{Outcome, planned, refuse_if, refuse_at, first_from, ◌or_else◌, test1, test2, test3, test4, test23, test5, test6, test7, test8}

-- ℓ, the larger of r_1 and d - a_2, and u, the smaller of a_1 and d - r_2
unfoldable pub least_split : Case → ℕ
least_split c = max c.run1 (made c - supply c 1)

unfoldable pub greatest_split : Case → ℕ
greatest_split c = min (supply c 0) (made c - c.run2)

unfoldable pub steps : Case → ℕ
steps c = greatest_split c - least_split c

-- a plan that meets (TP) and both least runs
pub record MeetsTP (c : Case) (x : List ℕ) : Type 0 where
  pub cells : length x ≡ c.m * c.n
  pub plant1 : row_sum c x 0 ≤ supply c 0
  pub plant2 : row_sum c x 1 ≤ supply c 1
  pub runs1 : c.run1 ≤ row_sum c x 0
  pub runs2 : c.run2 ≤ row_sum c x 1
  pub depots : (i : ℕ) → 2 ≤ i → i < c.m → row_sum c x i ≡ supply c i
  pub terminals : (j : ℕ) → j < c.n → column_sum c x j ≡ demand c j

-- f(y), the least freight of any plan at split y
unfoldable pub least_freight_at : Case → ℕ → ℤ
least_freight_at c y =
    leastℤ
    (map (λ x. freightℤ c.m c.n (rates_by_row c.n c.costs) (by_row c.n x)) (listing c.m c.n (amounts_at (made c) (λ i. supply c i) y) (λ j. demand c j)))

-- the first plan of that freight in the listing of all plans at split y
unfoldable pub plan_for : Case → ℕ → List ℕ
plan_for c y =
    first
    (select (λ x. eq_z (freightℤ c.m c.n (rates_by_row c.n c.costs) (by_row c.n x)) (least_freight_at c y))
    (listing c.m c.n (amounts_at (made c) (λ i. supply c i) y) (λ j. demand c j)))

unfoldable pub total_at : Case → ℕ → ℤ
total_at c y = least_freight_at c y +ℤ pos (entry c y)

unfoldable pub best_split : Case → ℕ
best_split c = best_fromℤ (total_at c) (least_split c) (steps c)

unfoldable pub stops : Case → List ℕ
stops c = stops_ofℤ (least_freight_at c) (least_split c) (greatest_split c)

unfoldable pub stop_freights : Case → List ℤ
stop_freights c = map (least_freight_at c) (stops c)

-- the tests that look at the splits
unfoldable pub test9 : Case → Option Outcome
test9 c = refuse_at 9 (first_from (λ y. ltb 1000000000 (entry c y)) (least_split c) (steps c + 1))

unfoldable pub test11 : Case → Option Outcome
test11 c =
    refuse_if 11
    (ltb c.plan_cells (c.m * c.n) || (ltb c.split_cells (steps c + 1) || ltb c.freight_cells (steps c + 1)))

unfoldable pub form_refusal : Case → Option Outcome
form_refusal c =
    test1 c or_else test2 c or_else test3 c or_else test4 c or_else test23 c or_else test5 c or_else test6 c

unfoldable pub refusal_of : Case → Option Outcome
refusal_of c = form_refusal c or_else test7 c or_else test8 c or_else test9 c or_else test11 c

unfoldable pub plan_of : Case → Outcome
plan_of c = planned (best_split c) (total_at c (best_split c)) (least_freight_at c (best_split c)) (length (stops c))

unfoldable pub outcome_of : Case → Outcome
outcome_of c = elim (refusal_of c) [ some r ↦ r | none ↦ plan_of c ]
