-- Case A with two tables: which splits can be the cheapest, the two least totals, and the refusals, computed from the definitions. Assumes nothing.
use mathlib.Core.Path.{◌≡◌, refl}
use mathlib.Core.List.{List, [], ◌∷◌, flat_map}
use Prim.Native.Nat.{ℕ}
use lib.IntN.{ℤ, pos, negsuc}
use Rattle.problem.specs.Integer.{eq_z, minℤ, sumℤ, leastℤ}
use Rattle.problem.specs.Freight.{freightℤ, least_freightℤ, least_atℤ, bendsℤ, is_stopℤ, stops_ofℤ, best_fromℤ}
use Rattle.problem.specs.Range.{outside}
use Rattle.transport.specs.Sum.{sum}
use Rattle.transport.specs.Plan.{row, col}
use Rattle.transport.specs.Listing.{up_from, select, compositions, row_lists, served, listing, every, fits, listing_in, some, least, greatest}
use Rattle.transport.specs.Curve.{amounts_at, has_plan, splits_in}
use Rattle.problem.specs.Case.{Case, all_demand, depot_stock, made, lowest_split, highest_split, splits, has_split, least_split, greatest_split, steps}
use Rattle.problem.specs.Plans.{least_freight_at, total_at, best_split, stops, stop_freights}
use Rattle.problem.specs.Outcome.{refuse_if, refuse_at, first_from, first_over, ◌or_else◌, form_refusal, refusal_of, plan_of, test1, test2, test3, test4}
use Rattle.problem.specs.Outcome.{test23, test5, test26, test6, test7, test8, test27, test9, test11}
use Rattle.problem.specs.Outcome as planner
use Rattle.bounds_problem.specs.Tables.{total_with, least_over, least_total, all_from, can_be, mark, marks}
use Rattle.bounds_problem.specs.Answers.{Outcome, known, refused, lowCase, badEntry, place28, laterOf, outcome_of}

-- case A with least runs, the unit cost and the ceiling of its first lane, and the low table
lane : ℕ → ℕ → ℤ → ℕ → List ℕ → Case
lane run1 run2 cost ceiling low =
    lowCase 3 2 run1 run2 (cost ∷ pos 6 ∷ pos 5 ∷ pos 3 ∷ pos 1 ∷ pos 4 ∷ []) (3 ∷ 3 ∷ 1 ∷ []) (3 ∷ 2 ∷ [])
    (ceiling ∷ 4000 ∷ 4000 ∷ 4000 ∷ 4000 ∷ 4000 ∷ []) low

A : List ℕ → Case
A low = lane 0 0 (pos 2) 4000 low

-- what is answered, with so many cells, and the marks of the splits
pub record Example : Type 0 where
  pub known_or_refused : Outcome
  pub marked : List ℕ

told : Case → List ℕ → ℕ → Example
told c high cells = record { known_or_refused = outcome_of c high cells; marked = marks c high }

-- f is 14, 11, 13
pub answered : List Example
answered =
    told (A (99 ∷ 20 ∷ 24 ∷ 20 ∷ [])) (99 ∷ 20 ∷ 24 ∷ 21 ∷ []) 3
    ∷ told (A (99 ∷ 20 ∷ 24 ∷ 20 ∷ [])) (0 ∷ 20 ∷ 24 ∷ 20 ∷ []) 3
    ∷ told (A (99 ∷ 20 ∷ 20 ∷ 22 ∷ [])) (99 ∷ 30 ∷ 30 ∷ 30 ∷ []) 4
    ∷ told (lane 0 0 (pos 2) 1 (99 ∷ 20 ∷ 17 ∷ 20 ∷ [])) (99 ∷ 21 ∷ 17 ∷ 20 ∷ []) 3
    ∷ told (lane 2 1 (pos 2) 4000 (99 ∷ 20 ∷ 24 ∷ 20 ∷ [])) (99 ∷ 20 ∷ 24 ∷ 22 ∷ []) 2
    ∷ told (lane 0 0 (negsuc 8) 4000 (0 ∷ 0 ∷ 0 ∷ 9 ∷ [])) (0 ∷ 0 ∷ 1 ∷ 11 ∷ []) 3
    ∷ []

-- split 2 cannot, low total 35 against a high total of 34; the same entries twice; a wide gap; the first lane's ceiling 1, where f is 14, 17, 20;
-- least runs 2 and 1, where the splits are 2 and 3; a rebate of 9 on the first lane, where f is 3, -11, -20
pub answers : answered ≡ record { known_or_refused = known 1 3 (pos 33) (pos 34); marked = 1 ∷ 0 ∷ 1 ∷ [] }
    ∷ record { known_or_refused = known 1 3 (pos 33) (pos 33); marked = 0 ∷ 0 ∷ 1 ∷ [] }
    ∷ record { known_or_refused = known 1 3 (pos 31) (pos 41); marked = 1 ∷ 1 ∷ 1 ∷ [] }
    ∷ record { known_or_refused = known 1 3 (pos 34) (pos 34); marked = 1 ∷ 1 ∷ 0 ∷ [] }
    ∷ record { known_or_refused = known 2 2 (pos 33) (pos 35); marked = 1 ∷ 1 ∷ [] }
    ∷ record { known_or_refused = known 1 3 (negsuc 10) (negsuc 9); marked = 0 ∷ 1 ∷ 1 ∷ [] }
    ∷ []
unfolding answered told A lane flat_map eq_z minℤ sumℤ leastℤ freightℤ least_freightℤ least_atℤ bendsℤ is_stopℤ stops_ofℤ best_fromℤ outside sum row col
    up_from select compositions row_lists served listing every fits listing_in some least greatest amounts_at has_plan splits_in all_demand depot_stock made
    lowest_split highest_split splits has_split least_split greatest_split steps least_freight_at total_at best_split stops stop_freights refuse_if refuse_at
    first_from first_over ◌or_else◌ form_refusal refusal_of plan_of planner.outcome_of test1 test2 test3 test4 test23 test5 test26 test6 test7 test8 test27
    test9 test11 total_with least_over least_total all_from can_be mark marks badEntry place28 laterOf outcome_of
answers = refl

pub refused_ones : List Outcome
refused_ones =
    outcome_of (A (99 ∷ 20 ∷ 24 ∷ 20 ∷ [])) (99 ∷ 20 ∷ 24 ∷ []) 3
    ∷ outcome_of (A (99 ∷ 20 ∷ 24 ∷ 20 ∷ [])) (99 ∷ 20 ∷ 23 ∷ 19 ∷ []) 3
    ∷ outcome_of (A (99 ∷ 20 ∷ 24 ∷ 20 ∷ [])) (99 ∷ 20 ∷ 24 ∷ 1000000001 ∷ []) 0
    ∷ outcome_of (A (99 ∷ 20 ∷ 1000000001 ∷ 20 ∷ [])) (99 ∷ 10 ∷ 1000000001 ∷ 20 ∷ []) 3
    ∷ outcome_of (A (99 ∷ 20 ∷ 24 ∷ [])) (99 ∷ 10 ∷ 24 ∷ []) 3
    ∷ outcome_of (lane 0 0 (pos 2) 4001 (99 ∷ 20 ∷ 24 ∷ 20 ∷ [])) [] 0
    ∷ outcome_of (A (99 ∷ 20 ∷ 24 ∷ 20 ∷ [])) (99 ∷ 20 ∷ 24 ∷ 21 ∷ []) 2
    ∷ []

-- a high table of three entries; an entry below its low; one too high, before the answers' length; the low table's refusals 9 and 6 first, and 26;
-- answers too short
pub refusals : refused_ones ≡ refused 28 0 ∷ refused 28 2 ∷ refused 28 3 ∷ refused 9 2 ∷ refused 6 0 ∷ refused 26 1 ∷ refused 11 0 ∷ []
unfolding refused_ones A lane flat_map eq_z minℤ sumℤ leastℤ freightℤ least_freightℤ least_atℤ bendsℤ is_stopℤ stops_ofℤ best_fromℤ outside sum row col
    up_from select compositions row_lists served listing every fits listing_in some least greatest amounts_at has_plan splits_in all_demand depot_stock made
    lowest_split highest_split splits has_split least_split greatest_split steps least_freight_at total_at best_split stops stop_freights refuse_if refuse_at
    first_from first_over ◌or_else◌ form_refusal refusal_of plan_of planner.outcome_of test1 test2 test3 test4 test23 test5 test26 test6 test7 test8 test27
    test9 test11 total_with least_over least_total all_from can_be mark marks badEntry place28 laterOf outcome_of
refusals = refl
