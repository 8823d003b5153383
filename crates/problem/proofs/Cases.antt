-- Two tables of examples, one theorem each: the cases P1 to P10, and further cases that pin what those leave open. Assumes nothing.
use mathlib.Core.Path.{◌≡◌, refl}
use mathlib.Core.Bool.{true}
use mathlib.Core.List.{List, [], ◌∷◌, flat_map, Memᴰ}
use Prim.Native.Nat.{ℕ, ◌*◌}
use lib.ListN.{replicate}
use lib.IntN.{ℤ, pos, negsuc}
use Rattle.problem.specs.Integer.{eq_z, minℤ, sumℤ, leastℤ}
use Rattle.problem.specs.Freight.{freightℤ, least_freightℤ, canonicalℤ, least_atℤ, bendsℤ, is_stopℤ, stops_ofℤ, best_fromℤ}
use Rattle.problem.specs.Range.{outside}
use Rattle.transport.specs.Sum.{sum}
use Rattle.transport.specs.Plan.{row, col}
use Rattle.transport.specs.Listing.{up_from, select, compositions, row_lists, served, listing, every, fits, listing_in, some, least, greatest}
use Rattle.transport.specs.Curve.{amounts_at, has_plan, splits_in}
use Rattle.transport.specs.Canonical.{first}
use Rattle.problem.specs.Case.{Case, all_demand, depot_stock, made, lowest_split, highest_split, splits, has_split, least_split, greatest_split, steps}
use Rattle.problem.specs.Plans.{least_freight_at, plan_for, total_at, best_split, stops, stop_freights}
use Rattle.problem.specs.Outcome.{Outcome, planned, refused, refuse_if, refuse_at, first_from, first_over, ◌or_else◌, form_refusal, refusal_of, plan_of, outcome_of}
use Rattle.problem.specs.Outcome.{test1, test2, test3, test4, test23, test5, test26, test6, test7, test8, test27, test9, test11}
use Rattle.problem.proofs.Example.{Example, plan_given, where_accepted, same_list, same_integers, same_outcome, right, all_right, Right, each_right}

-- m, n, least runs, unit costs, supplies, demands, ceilings, table, and the cells of the three slices to be written
capped : ℕ → ℕ → ℕ → ℕ → List ℤ → List ℕ → List ℕ → List ℕ → List ℕ → ℕ → ℕ → ℕ → Case
capped m n run1 run2 costs supplies demands ceilings table plan split freight = record {
  m = m;
  n = n;
  run1 = run1;
  run2 = run2;
  costs = costs;
  supplies = supplies;
  demands = demands;
  ceilings = ceilings;
  table = table;
  plan_cells = plan;
  split_cells = split;
  freight_cells = freight;
}

-- the same with 4,000 on every lane
run : ℕ → ℕ → ℕ → ℕ → List ℤ → List ℕ → List ℕ → List ℕ → ℕ → ℕ → ℕ → Case
run m n run1 run2 costs supplies demands table plan split freight =
    capped m n run1 run2 costs supplies demands (replicate {A = ℕ} (m * n) 4000) table plan split freight

-- the same with least runs 0
lend : ℕ → ℕ → List ℤ → List ℕ → List ℕ → List ℕ → ℕ → ℕ → ℕ → Case
lend m n costs supplies demands table plan split freight = run m n 0 0 costs supplies demands table plan split freight

-- case A with other slices, with other supplies and another table, with other room to write, with other m and n
slices : List ℤ → List ℕ → List ℕ → List ℕ → Case
slices costs supplies demands table = lend 3 2 costs supplies demands table 6 3 3

A : List ℕ → List ℕ → Case
A supplies table = slices (pos 2 ∷ pos 6 ∷ pos 5 ∷ pos 3 ∷ pos 1 ∷ pos 4 ∷ []) supplies (3 ∷ 2 ∷ []) table

rooms : List ℕ → List ℕ → ℕ → ℕ → ℕ → Case
rooms supplies table plan split freight = lend 3 2 (pos 2 ∷ pos 6 ∷ pos 5 ∷ pos 3 ∷ pos 1 ∷ pos 4 ∷ []) supplies (3 ∷ 2 ∷ []) table plan split freight

sized : ℕ → ℕ → Case
sized m n = lend m n (pos 2 ∷ pos 6 ∷ pos 5 ∷ pos 3 ∷ pos 1 ∷ pos 4 ∷ []) (3 ∷ 3 ∷ 1 ∷ []) (3 ∷ 2 ∷ []) (99 ∷ 20 ∷ 24 ∷ 20 ∷ []) 6 3 3

-- case A with least runs
runs : ℕ → ℕ → Case
runs run1 run2 =
    run 3 2 run1 run2 (pos 2 ∷ pos 6 ∷ pos 5 ∷ pos 3 ∷ pos 1 ∷ pos 4 ∷ []) (3 ∷ 3 ∷ 1 ∷ []) (3 ∷ 2 ∷ []) (99 ∷ 20 ∷ 24 ∷ 20 ∷ []) 6 3 3

-- case A with ceilings, with another table too, with least runs too
caps : List ℕ → Case
caps ceilings =
    capped 3 2 0 0 (pos 2 ∷ pos 6 ∷ pos 5 ∷ pos 3 ∷ pos 1 ∷ pos 4 ∷ []) (3 ∷ 3 ∷ 1 ∷ []) (3 ∷ 2 ∷ []) ceilings (99 ∷ 20 ∷ 24 ∷ 20 ∷ []) 6 3 3

caps_table : List ℕ → List ℕ → Case
caps_table ceilings table =
    capped 3 2 0 0 (pos 2 ∷ pos 6 ∷ pos 5 ∷ pos 3 ∷ pos 1 ∷ pos 4 ∷ []) (3 ∷ 3 ∷ 1 ∷ []) (3 ∷ 2 ∷ []) ceilings table 6 3 3

caps_run : ℕ → ℕ → List ℕ → Case
caps_run run1 run2 ceilings =
    capped 3 2 run1 run2 (pos 2 ∷ pos 6 ∷ pos 5 ∷ pos 3 ∷ pos 1 ∷ pos 4 ∷ []) (3 ∷ 3 ∷ 1 ∷ []) (3 ∷ 2 ∷ []) ceilings (99 ∷ 20 ∷ 24 ∷ 20 ∷ []) 6 3 3

-- the outcome (split, total, freight, count of stops), the amounts in row order, the stops, and f at each
accept : Case → Outcome → List ℕ → List ℕ → List ℤ → Example
accept c o amounts splits freights = record { given = c; outcome = o; amounts = amounts; splits = splits; freights = freights }

-- the refusal's number and place
refuse : Case → ℕ → ℕ → Example
refuse c k p = accept c (refused k p) [] [] []

-- P1 to P10: case A with its supplies and its table; then A with least runs 2 and 1, 2 and 2, 4 and 0, 0 and 4,
-- and A with ceiling 1 on lane 1 to 1
pub paper : List Example
paper =
    accept (A (3 ∷ 3 ∷ 1 ∷ []) (99 ∷ 20 ∷ 24 ∷ 20 ∷ [])) (planned 3 (pos 33) (pos 13) 3) (3 ∷ 0 ∷ 0 ∷ 1 ∷ 0 ∷ 1 ∷ []) (1 ∷ 2 ∷ 3 ∷ []) (pos 14 ∷ pos 11 ∷ pos 13 ∷ [])
    ∷ accept (A (3 ∷ 3 ∷ 1 ∷ []) (99 ∷ 20 ∷ 24 ∷ 22 ∷ [])) (planned 1 (pos 34) (pos 14) 3) (1 ∷ 0 ∷ 1 ∷ 2 ∷ 1 ∷ 0 ∷ []) (1 ∷ 2 ∷ 3 ∷ []) (pos 14 ∷ pos 11 ∷ pos 13 ∷ [])
    ∷ accept (A (3 ∷ 3 ∷ 1 ∷ []) (99 ∷ 20 ∷ 24 ∷ 21 ∷ [])) (planned 1 (pos 34) (pos 14) 3) (1 ∷ 0 ∷ 1 ∷ 2 ∷ 1 ∷ 0 ∷ []) (1 ∷ 2 ∷ 3 ∷ []) (pos 14 ∷ pos 11 ∷ pos 13 ∷ [])
    ∷ accept (A (3 ∷ 3 ∷ 1 ∷ []) (99 ∷ 20 ∷ 20 ∷ 20 ∷ [])) (planned 2 (pos 31) (pos 11) 3) (2 ∷ 0 ∷ 0 ∷ 2 ∷ 1 ∷ 0 ∷ []) (1 ∷ 2 ∷ 3 ∷ []) (pos 14 ∷ pos 11 ∷ pos 13 ∷ [])
    ∷ refuse (A (3 ∷ 3 ∷ 6 ∷ []) (99 ∷ 20 ∷ 24 ∷ 20 ∷ [])) 7 0
    ∷ refuse (A (1 ∷ 2 ∷ 1 ∷ []) (99 ∷ 20 ∷ [])) 8 0
    ∷ accept (A (3 ∷ 3 ∷ 1 ∷ []) (99 ∷ 20 ∷ 20 ∷ 22 ∷ [])) (planned 2 (pos 31) (pos 11) 3) (2 ∷ 0 ∷ 0 ∷ 2 ∷ 1 ∷ 0 ∷ []) (1 ∷ 2 ∷ 3 ∷ []) (pos 14 ∷ pos 11 ∷ pos 13 ∷ [])
    ∷ refuse (A (4001 ∷ 3 ∷ 1 ∷ []) (99 ∷ 20 ∷ 24 ∷ 20 ∷ [])) 4 1
    ∷ accept (A (3 ∷ 3 ∷ 5 ∷ []) (99 ∷ 20 ∷ 24 ∷ 20 ∷ [])) (planned 0 (pos 110) (pos 11) 1) (0 ∷ 0 ∷ 0 ∷ 0 ∷ 3 ∷ 2 ∷ []) (0 ∷ []) (pos 11 ∷ [])
    ∷ accept (A (3 ∷ 1 ∷ 1 ∷ []) (99 ∷ 20 ∷ 24 ∷ 20 ∷ [])) (planned 3 (pos 33) (pos 13) 1) (3 ∷ 0 ∷ 0 ∷ 1 ∷ 0 ∷ 1 ∷ []) (3 ∷ []) (pos 13 ∷ [])
    ∷ accept (runs 2 1) (planned 3 (pos 33) (pos 13) 2) (3 ∷ 0 ∷ 0 ∷ 1 ∷ 0 ∷ 1 ∷ []) (2 ∷ 3 ∷ []) (pos 11 ∷ pos 13 ∷ [])
    ∷ accept (runs 2 2) (planned 2 (pos 35) (pos 11) 1) (2 ∷ 0 ∷ 0 ∷ 2 ∷ 1 ∷ 0 ∷ []) (2 ∷ []) (pos 11 ∷ [])
    ∷ refuse (runs 4 0) 23 1
    ∷ refuse (runs 0 4) 23 2
    ∷ accept (caps (1 ∷ 4000 ∷ 4000 ∷ 4000 ∷ 4000 ∷ 4000 ∷ [])) (planned 1 (pos 34) (pos 14) 2) (1 ∷ 0 ∷ 1 ∷ 2 ∷ 1 ∷ 0 ∷ []) (1 ∷ 3 ∷ []) (pos 14 ∷ pos 20 ∷ [])
    ∷ []

pub p1_to_p10 : all_right paper ≡ true
unfolding paper capped run lend slices A runs caps accept refuse flat_map sum row col up_from select compositions row_lists served listing every fits
    listing_in some least greatest has_plan splits_in amounts_at all_demand depot_stock made lowest_split highest_split splits has_split least_split
    greatest_split steps least_freight_at total_at best_split stops stop_freights refuse_if refuse_at first_from first_over ◌or_else◌ form_refusal refusal_of
    plan_of outcome_of test1 test2 test3 test4 test23 test5 test26 test6 test7 test8 test27 test9 test11 outside eq_z minℤ sumℤ leastℤ freightℤ
    least_freightℤ canonicalℤ least_atℤ bendsℤ is_stopℤ stops_ofℤ best_fromℤ first plan_for plan_given where_accepted same_list same_integers same_outcome right
    all_right
p1_to_p10 = refl

pub paper_right : (e : Example) → Memᴰ e paper → Right e
paper_right = each_right paper p1_to_p10

-- each refusal 1 to 9, 11, 23, 26 and 27, the order of the tests where two conditions hold, the places, the range of test 9, tables of any shape, straight splits, several cheapest plans, the limits
pub held : List Example
held =
    -- the examples of refusals 1, 2, 3, 5, 6, 9 and 11
    refuse (sized 1 2) 1 0
    ∷ refuse (sized 3 0) 2 0
    ∷ refuse (slices (pos 2 ∷ pos 6 ∷ pos 5 ∷ pos 3 ∷ pos 1 ∷ []) (3 ∷ 3 ∷ 1 ∷ []) (3 ∷ 2 ∷ []) (99 ∷ 20 ∷ 24 ∷ 20 ∷ [])) 3 0
    ∷ refuse (slices (pos 1000001 ∷ pos 6 ∷ pos 5 ∷ pos 3 ∷ pos 1 ∷ pos 4 ∷ []) (3 ∷ 3 ∷ 1 ∷ []) (3 ∷ 2 ∷ []) (99 ∷ 20 ∷ 24 ∷ 20 ∷ [])) 5 1
    ∷ refuse (A (3 ∷ 3 ∷ 1 ∷ []) (99 ∷ 20 ∷ 24 ∷ [])) 6 0
    ∷ refuse (A (3 ∷ 3 ∷ 1 ∷ []) (99 ∷ 20 ∷ 1000000001 ∷ 20 ∷ [])) 9 2
    ∷ refuse (rooms (3 ∷ 3 ∷ 1 ∷ []) (99 ∷ 20 ∷ 24 ∷ 20 ∷ []) 5 3 3) 11 0
    -- a unit cost below the range
    ∷ refuse (slices (pos 2 ∷ pos 6 ∷ pos 5 ∷ negsuc 1000000 ∷ pos 1 ∷ pos 4 ∷ []) (3 ∷ 3 ∷ 1 ∷ []) (3 ∷ 2 ∷ []) (99 ∷ 20 ∷ 24 ∷ 20 ∷ [])) 5 4
    -- rebates: freight and total below 0, the smallest split of a signed tie
    ∷ accept (lend 2 1 (negsuc 9 ∷ negsuc 4 ∷ []) (3 ∷ 3 ∷ []) (4 ∷ []) (99 ∷ 20 ∷ 24 ∷ 20 ∷ []) 2 8 8) (planned 3 (negsuc 14) (negsuc 34) 2) (3 ∷ 1 ∷ []) (1 ∷ 3 ∷ []) (negsuc 24 ∷ negsuc 34 ∷ [])
    -- the least unit cost
    ∷ accept (lend 2 1 (pos 7 ∷ negsuc 999999 ∷ []) (0 ∷ 4000 ∷ []) (4000 ∷ []) (0 ∷ []) 2 8 8) (planned 0 (negsuc 3999999999) (negsuc 3999999999) 1) (0 ∷ 4000 ∷ []) (0 ∷ []) (negsuc 3999999999 ∷ [])
    -- both runs too high: the lower place; a run and a supply; a run and a unit cost
    ∷ refuse (runs 4 4) 23 1
    ∷ refuse (run 3 2 4 0 (pos 2 ∷ pos 6 ∷ pos 5 ∷ pos 3 ∷ pos 1 ∷ pos 4 ∷ []) (3 ∷ 4001 ∷ 1 ∷ []) (3 ∷ 2 ∷ []) (99 ∷ 20 ∷ 24 ∷ 20 ∷ []) 6 3 3) 4 2
    ∷ refuse (run 3 2 0 4 (pos 1000001 ∷ pos 6 ∷ pos 5 ∷ pos 3 ∷ pos 1 ∷ pos 4 ∷ []) (3 ∷ 3 ∷ 1 ∷ []) (3 ∷ 2 ∷ []) (99 ∷ 20 ∷ 24 ∷ 20 ∷ []) 6 3 3) 23 2
    -- a run above its supply, and d above both supplies
    ∷ refuse (run 3 2 2 0 (pos 2 ∷ pos 6 ∷ pos 5 ∷ pos 3 ∷ pos 1 ∷ pos 4 ∷ []) (1 ∷ 2 ∷ 1 ∷ []) (3 ∷ 2 ∷ []) (99 ∷ 20 ∷ []) 6 3 3) 23 1
    -- both runs together above d
    ∷ refuse (runs 3 2) 7 0
    -- plant 2's run alone, and plant 1's
    ∷ accept (runs 0 2) (planned 1 (pos 34) (pos 14) 2) (1 ∷ 0 ∷ 1 ∷ 2 ∷ 1 ∷ 0 ∷ []) (1 ∷ 2 ∷ []) (pos 14 ∷ pos 11 ∷ [])
    ∷ accept (runs 3 0) (planned 3 (pos 33) (pos 13) 1) (3 ∷ 0 ∷ 0 ∷ 1 ∷ 0 ∷ 1 ∷ []) (3 ∷ []) (pos 13 ∷ [])
    -- five ceilings; a ceiling too high, on the last lane, on two lanes
    ∷ refuse (caps (4000 ∷ 4000 ∷ 4000 ∷ 4000 ∷ 4000 ∷ [])) 26 0
    ∷ refuse (caps (4000 ∷ 4000 ∷ 4000 ∷ 4000 ∷ 4000 ∷ 4001 ∷ [])) 26 6
    ∷ refuse (caps (4000 ∷ 4001 ∷ 4000 ∷ 4001 ∷ 4000 ∷ 4000 ∷ [])) 26 2
    -- no ceilings, and a unit cost; a ceiling, and the table
    ∷ refuse (capped 3 2 0 0 (pos 2 ∷ pos 6 ∷ pos 5 ∷ pos 3 ∷ pos 1 ∷ pos 1000001 ∷ []) (3 ∷ 3 ∷ 1 ∷ []) (3 ∷ 2 ∷ []) [] (99 ∷ 20 ∷ 24 ∷ 20 ∷ []) 6 3 3) 5 6
    ∷ refuse (caps_table (4000 ∷ 4000 ∷ 4001 ∷ 4000 ∷ 4000 ∷ 4000 ∷ []) (99 ∷ 20 ∷ 24 ∷ [])) 26 3
    -- plant 1 shut off: no plan, whatever the entries and the room
    ∷ refuse (caps_table (0 ∷ 0 ∷ 4000 ∷ 4000 ∷ 4000 ∷ 4000 ∷ []) (99 ∷ 1000000001 ∷ 24 ∷ 20 ∷ [])) 27 0
    -- a depot shut off; the balance and all lanes shut off
    ∷ refuse (caps (4000 ∷ 4000 ∷ 4000 ∷ 4000 ∷ 0 ∷ 0 ∷ [])) 27 0
    ∷ refuse (capped 3 2 3 2 (pos 2 ∷ pos 6 ∷ pos 5 ∷ pos 3 ∷ pos 1 ∷ pos 4 ∷ []) (3 ∷ 3 ∷ 1 ∷ []) (3 ∷ 2 ∷ []) (0 ∷ 0 ∷ 0 ∷ 0 ∷ 0 ∷ 0 ∷ []) (99 ∷ 20 ∷ 24 ∷ 20 ∷ []) 6 3 3) 7 0
    -- ceilings that move ℓ, that move u, and ceilings against a least run
    ∷ accept (caps (4000 ∷ 4000 ∷ 1 ∷ 1 ∷ 4000 ∷ 4000 ∷ [])) (planned 3 (pos 33) (pos 13) 2) (3 ∷ 0 ∷ 0 ∷ 1 ∷ 0 ∷ 1 ∷ []) (2 ∷ 3 ∷ []) (pos 16 ∷ pos 13 ∷ [])
    ∷ accept (caps (1 ∷ 1 ∷ 4000 ∷ 4000 ∷ 4000 ∷ 4000 ∷ [])) (planned 1 (pos 34) (pos 14) 2) (1 ∷ 0 ∷ 1 ∷ 2 ∷ 1 ∷ 0 ∷ []) (1 ∷ 2 ∷ []) (pos 14 ∷ pos 17 ∷ [])
    ∷ refuse (caps_run 0 3 (4000 ∷ 4000 ∷ 1 ∷ 1 ∷ 4000 ∷ 4000 ∷ [])) 27 0
    -- the entry at a split that a ceiling shuts off
    ∷ accept (caps_table (4000 ∷ 4000 ∷ 1 ∷ 1 ∷ 4000 ∷ 4000 ∷ []) (99 ∷ 1000000001 ∷ 24 ∷ 20 ∷ [])) (planned 3 (pos 33) (pos 13) 2) (3 ∷ 0 ∷ 0 ∷ 1 ∷ 0 ∷ 1 ∷ []) (2 ∷ 3 ∷ []) (pos 16 ∷ pos 13 ∷ [])
    -- m below 2, and n below 1
    ∷ refuse (sized 1 0) 1 0
    -- m above 32
    ∷ refuse (sized 33 2) 1 0
    -- n above 64, and the lengths
    ∷ refuse (sized 3 65) 2 0
    -- five costs, and a supply
    ∷ refuse (slices (pos 2 ∷ pos 6 ∷ pos 5 ∷ pos 3 ∷ pos 1 ∷ []) (4001 ∷ 3 ∷ 1 ∷ []) (3 ∷ 2 ∷ []) (99 ∷ 20 ∷ 24 ∷ 20 ∷ [])) 3 0
    -- two supplies
    ∷ refuse (A (3 ∷ 3 ∷ []) (99 ∷ 20 ∷ 24 ∷ 20 ∷ [])) 3 0
    -- three demands
    ∷ refuse (slices (pos 2 ∷ pos 6 ∷ pos 5 ∷ pos 3 ∷ pos 1 ∷ pos 4 ∷ []) (3 ∷ 3 ∷ 1 ∷ []) (3 ∷ 2 ∷ 0 ∷ []) (99 ∷ 20 ∷ 24 ∷ 20 ∷ [])) 3 0
    -- a supply and a unit cost
    ∷ refuse (slices (pos 1000001 ∷ pos 6 ∷ pos 5 ∷ pos 3 ∷ pos 1 ∷ pos 4 ∷ []) (4001 ∷ 3 ∷ 1 ∷ []) (3 ∷ 2 ∷ []) (99 ∷ 20 ∷ 24 ∷ 20 ∷ [])) 4 1
    -- a supply and a demand: the lowest place
    ∷ refuse (slices (pos 2 ∷ pos 6 ∷ pos 5 ∷ pos 3 ∷ pos 1 ∷ pos 4 ∷ []) (3 ∷ 3 ∷ 4001 ∷ []) (4001 ∷ 2 ∷ []) (99 ∷ 20 ∷ 24 ∷ 20 ∷ [])) 4 3
    -- the last demand
    ∷ refuse (slices (pos 2 ∷ pos 6 ∷ pos 5 ∷ pos 3 ∷ pos 1 ∷ pos 4 ∷ []) (3 ∷ 3 ∷ 1 ∷ []) (3 ∷ 4001 ∷ []) (99 ∷ 20 ∷ 24 ∷ 20 ∷ [])) 4 5
    -- the last lane, and the table
    ∷ refuse (slices (pos 2 ∷ pos 6 ∷ pos 5 ∷ pos 3 ∷ pos 1 ∷ pos 1000001 ∷ []) (3 ∷ 3 ∷ 1 ∷ []) (3 ∷ 2 ∷ []) (99 ∷ 20 ∷ 24 ∷ [])) 5 6
    -- two lanes: the first in row order
    ∷ refuse (slices (pos 2 ∷ pos 1000001 ∷ pos 1000001 ∷ pos 3 ∷ pos 1 ∷ pos 4 ∷ []) (3 ∷ 3 ∷ 1 ∷ []) (3 ∷ 2 ∷ []) (99 ∷ 20 ∷ 24 ∷ 20 ∷ [])) 5 2
    -- five entries
    ∷ refuse (A (3 ∷ 3 ∷ 1 ∷ []) (99 ∷ 20 ∷ 24 ∷ 20 ∷ 20 ∷ [])) 6 0
    -- three entries, and the balance
    ∷ refuse (A (3 ∷ 3 ∷ 6 ∷ []) (99 ∷ 20 ∷ 24 ∷ [])) 6 0
    -- balance, and entry 0
    ∷ refuse (A (3 ∷ 3 ∷ 6 ∷ []) (1000000001 ∷ 20 ∷ 24 ∷ 20 ∷ [])) 7 0
    -- balance, and a short plan slice
    ∷ refuse (rooms (1 ∷ 2 ∷ 1 ∷ []) (99 ∷ 20 ∷ []) 5 3 3) 8 0
    -- the first split
    ∷ refuse (A (3 ∷ 3 ∷ 1 ∷ []) (99 ∷ 1000000001 ∷ 20 ∷ 22 ∷ [])) 9 1
    -- the last split, and a short plan slice
    ∷ refuse (rooms (3 ∷ 3 ∷ 1 ∷ []) (99 ∷ 20 ∷ 24 ∷ 1000000001 ∷ []) 5 3 3) 9 3
    -- the entry before the first split
    ∷ accept (A (3 ∷ 3 ∷ 1 ∷ []) (1000000001 ∷ 20 ∷ 24 ∷ 20 ∷ [])) (planned 3 (pos 33) (pos 13) 3) (3 ∷ 0 ∷ 0 ∷ 1 ∷ 0 ∷ 1 ∷ []) (1 ∷ 2 ∷ 3 ∷ []) (pos 14 ∷ pos 11 ∷ pos 13 ∷ [])
    -- a table with a dip: the best split lies between two stops
    ∷ accept (lend 2 1 (pos 2 ∷ pos 5 ∷ []) (3 ∷ 3 ∷ []) (4 ∷ []) (99 ∷ 20 ∷ 10 ∷ 20 ∷ []) 2 8 8) (planned 2 (pos 24) (pos 14) 2) (2 ∷ 2 ∷ []) (1 ∷ 3 ∷ []) (pos 17 ∷ pos 11 ∷ [])
    -- the best split lies between two stops, with a tie further on; a table that falls and rises
    ∷ accept (lend 2 1 (pos 2 ∷ pos 5 ∷ []) (4 ∷ 3 ∷ []) (4 ∷ []) (99 ∷ 20 ∷ 10 ∷ 13 ∷ 20 ∷ []) 2 8 8) (planned 2 (pos 24) (pos 14) 2) (2 ∷ 2 ∷ []) (1 ∷ 4 ∷ []) (pos 17 ∷ pos 8 ∷ [])
    ∷ accept (lend 2 1 (pos 2 ∷ pos 5 ∷ []) (4 ∷ 3 ∷ []) (4 ∷ []) (99 ∷ 30 ∷ 5 ∷ 1 ∷ 30 ∷ []) 2 8 8) (planned 3 (pos 12) (pos 11) 2) (3 ∷ 1 ∷ []) (1 ∷ 4 ∷ []) (pos 17 ∷ pos 8 ∷ [])
    -- a fixed charge from split 2 on, and a table out of shape with short stop slices
    ∷ accept (lend 2 1 (pos 2 ∷ pos 5 ∷ []) (4 ∷ 3 ∷ []) (4 ∷ []) (99 ∷ 0 ∷ 50 ∷ 50 ∷ 50 ∷ []) 2 8 8) (planned 1 (pos 17) (pos 17) 2) (1 ∷ 3 ∷ []) (1 ∷ 4 ∷ []) (pos 17 ∷ pos 8 ∷ [])
    ∷ refuse (lend 2 1 (pos 2 ∷ pos 5 ∷ []) (4 ∷ 3 ∷ []) (4 ∷ []) (99 ∷ 20 ∷ 24 ∷ 20 ∷ 22 ∷ []) 2 1 1) 11 0
    -- the entry after the last split
    ∷ accept (lend 2 1 (pos 2 ∷ pos 5 ∷ []) (5 ∷ 3 ∷ []) (4 ∷ []) (99 ∷ 20 ∷ 24 ∷ 25 ∷ 22 ∷ 1000000001 ∷ []) 2 8 8) (planned 4 (pos 30) (pos 8) 2) (4 ∷ 0 ∷ []) (1 ∷ 4 ∷ []) (pos 17 ∷ pos 8 ∷ [])
    -- split slice one short
    ∷ refuse (rooms (3 ∷ 3 ∷ 1 ∷ []) (99 ∷ 20 ∷ 24 ∷ 20 ∷ []) 6 2 3) 11 0
    -- freight slice one short
    ∷ refuse (rooms (3 ∷ 3 ∷ 1 ∷ []) (99 ∷ 20 ∷ 24 ∷ 20 ∷ []) 6 3 2) 11 0
    -- slices with cells to spare
    ∷ accept (rooms (3 ∷ 3 ∷ 1 ∷ []) (99 ∷ 20 ∷ 24 ∷ 20 ∷ []) 9 7 8) (planned 3 (pos 33) (pos 13) 3) (3 ∷ 0 ∷ 0 ∷ 1 ∷ 0 ∷ 1 ∷ []) (1 ∷ 2 ∷ 3 ∷ []) (pos 14 ∷ pos 11 ∷ pos 13 ∷ [])
    -- all splits straight
    ∷ accept (lend 2 1 (pos 2 ∷ pos 5 ∷ []) (3 ∷ 3 ∷ []) (4 ∷ []) (99 ∷ 20 ∷ 24 ∷ 20 ∷ []) 2 8 8) (planned 3 (pos 31) (pos 11) 2) (3 ∷ 1 ∷ []) (1 ∷ 3 ∷ []) (pos 17 ∷ pos 11 ∷ [])
    -- two stretches of one slope, one to each terminal: the split between is no stop
    ∷ accept (lend 2 2 (pos 1 ∷ pos 1 ∷ pos 2 ∷ pos 2 ∷ []) (4 ∷ 4 ∷ []) (2 ∷ 2 ∷ []) (7 ∷ 7 ∷ 7 ∷ 7 ∷ 7 ∷ []) 4 8 8) (planned 4 (pos 11) (pos 4) 2)
    (2 ∷ 2 ∷ 0 ∷ 0 ∷ []) (0 ∷ 4 ∷ []) (pos 8 ∷ pos 4 ∷ [])
    -- a straight split before a bend
    ∷ accept (lend 2 2 (pos 1 ∷ pos 4 ∷ pos 3 ∷ pos 3 ∷ []) (4 ∷ 4 ∷ []) (3 ∷ 2 ∷ []) (50 ∷ 10 ∷ 10 ∷ 10 ∷ 10 ∷ []) 4 8 8)
    (planned 3 (pos 19) (pos 9) 3) (3 ∷ 0 ∷ 0 ∷ 2 ∷ []) (1 ∷ 3 ∷ 4 ∷ []) (pos 13 ∷ pos 9 ∷ pos 10 ∷ [])
    -- two depots, split 0 first and last
    ∷ accept (lend 4 2 (pos 9 ∷ pos 9 ∷ pos 4 ∷ pos 1 ∷ pos 2 ∷ pos 8 ∷ pos 7 ∷ pos 3 ∷ []) (0 ∷ 9 ∷ 2 ∷ 1 ∷ []) (3 ∷ 2 ∷ []) (5 ∷ []) 8 8 8)
    (planned 0 (pos 17) (pos 12) 1) (0 ∷ 0 ∷ 1 ∷ 1 ∷ 2 ∷ 0 ∷ 0 ∷ 1 ∷ []) (0 ∷ []) (pos 12 ∷ [])
    -- two depots, splits from 0
    ∷ accept (lend 4 2 (pos 1 ∷ pos 1 ∷ pos 4 ∷ pos 6 ∷ pos 2 ∷ pos 8 ∷ pos 7 ∷ pos 3 ∷ []) (2 ∷ 4 ∷ 2 ∷ 1 ∷ []) (3 ∷ 2 ∷ []) (9 ∷ 9 ∷ 9 ∷ []) 8 8 8)
    (planned 2 (pos 18) (pos 9) 3) (1 ∷ 1 ∷ 0 ∷ 0 ∷ 2 ∷ 0 ∷ 0 ∷ 1 ∷ []) (0 ∷ 1 ∷ 2 ∷ []) (pos 17 ∷ pos 12 ∷ pos 9 ∷ [])
    -- case A with one unit cost on every lane: the first of the cheapest plans
    ∷ accept (slices (pos 2 ∷ pos 2 ∷ pos 2 ∷ pos 2 ∷ pos 2 ∷ pos 2 ∷ []) (3 ∷ 3 ∷ 1 ∷ []) (3 ∷ 2 ∷ []) (99 ∷ 20 ∷ 24 ∷ 20 ∷ []))
    (planned 1 (pos 30) (pos 10) 2) (0 ∷ 1 ∷ 2 ∷ 1 ∷ 1 ∷ 0 ∷ []) (1 ∷ 3 ∷ []) (pos 10 ∷ pos 10 ∷ [])
    -- of three plans the last two are cheapest; the same with rebates; a ceiling shuts the first of the two off
    ∷ accept (lend 2 3 (pos 1 ∷ pos 1 ∷ pos 5 ∷ pos 1 ∷ pos 1 ∷ pos 1 ∷ []) (1 ∷ 2 ∷ []) (1 ∷ 1 ∷ 1 ∷ []) (9 ∷ 9 ∷ []) 6 1 1)
    (planned 1 (pos 12) (pos 3) 1) (0 ∷ 1 ∷ 0 ∷ 1 ∷ 0 ∷ 1 ∷ []) (1 ∷ []) (pos 3 ∷ [])
    ∷ accept (lend 2 3 (negsuc 2 ∷ negsuc 2 ∷ pos 1 ∷ negsuc 0 ∷ negsuc 0 ∷ negsuc 0 ∷ []) (1 ∷ 2 ∷ []) (1 ∷ 1 ∷ 1 ∷ []) (9 ∷ 9 ∷ []) 6 1 1)
    (planned 1 (pos 4) (negsuc 4) 1) (0 ∷ 1 ∷ 0 ∷ 1 ∷ 0 ∷ 1 ∷ []) (1 ∷ []) (negsuc 4 ∷ [])
    ∷ accept (capped 2 3 0 0 (pos 1 ∷ pos 1 ∷ pos 5 ∷ pos 1 ∷ pos 1 ∷ pos 1 ∷ []) (1 ∷ 2 ∷ []) (1 ∷ 1 ∷ 1 ∷ []) (4000 ∷ 0 ∷ 4000 ∷ 4000 ∷ 4000 ∷ 4000 ∷ []) (9 ∷ 9 ∷ []) 6 1 1)
    (planned 1 (pos 12) (pos 3) 1) (1 ∷ 0 ∷ 0 ∷ 0 ∷ 1 ∷ 1 ∷ []) (1 ∷ []) (pos 3 ∷ [])
    -- the largest amounts, unit cost and entry
    ∷ accept (lend 2 1 (pos 7 ∷ pos 1000000 ∷ []) (0 ∷ 4000 ∷ []) (4000 ∷ []) (1000000000 ∷ []) 2 8 8) (planned 0 (pos 5000000000) (pos 4000000000) 1) (0 ∷ 4000 ∷ []) (0 ∷ []) (pos 4000000000 ∷ [])
    -- 32 sources
    ∷ accept (lend 32 1 (replicate {A = ℤ} 32 (pos 0)) (replicate {A = ℕ} 32 0) (0 ∷ []) (3 ∷ []) 32 1 1) (planned 0 (pos 3) (pos 0) 1) (replicate {A = ℕ} 32 0) (0 ∷ []) (pos 0 ∷ [])
    -- 64 terminals
    ∷ accept (lend 2 64 (replicate {A = ℤ} 128 (pos 0)) (0 ∷ 0 ∷ []) (replicate {A = ℕ} 64 0) (3 ∷ []) 128 1 1) (planned 0 (pos 3) (pos 0) 1) (replicate {A = ℕ} 128 0) (0 ∷ []) (pos 0 ∷ [])
    ∷ []

pub held_pass : all_right held ≡ true
unfolding held capped run lend slices A runs caps caps_table caps_run rooms sized accept refuse flat_map sum row col up_from select compositions row_lists
    served listing every fits listing_in some least greatest has_plan splits_in amounts_at all_demand depot_stock made lowest_split highest_split splits
    has_split least_split greatest_split steps least_freight_at total_at best_split stops stop_freights refuse_if refuse_at first_from first_over ◌or_else◌
    form_refusal refusal_of plan_of outcome_of test1 test2 test3 test4 test23 test5 test26 test6 test7 test8 test27 test9 test11 outside eq_z minℤ sumℤ
    leastℤ freightℤ least_freightℤ canonicalℤ least_atℤ bendsℤ is_stopℤ stops_ofℤ best_fromℤ first plan_for plan_given where_accepted same_list same_integers
    same_outcome right all_right
held_pass = refl

pub held_right : (e : Example) → Memᴰ e held → Right e
held_right = each_right held held_pass
