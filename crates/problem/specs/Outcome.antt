-- The refusals 1 to 9, 11, 23, 26 and 27, each a definition of its own, their order, and the outcome of a case. Assumes nothing.
use Rattle.std.specs.Prelude.{Bool, true, false, not, cond, ◌||◌, ◌++◌, ℕ, zero, suc, ◌+◌, ◌-◌, ◌*◌, eqb, ltb, ℤ, pos, length, get_or}
use Rattle.std.proofs.Math.Option.{Option, none, some}
use Rattle.problem.specs.Range.{outside}
use Rattle.problem.specs.Case.{Case, supply, entry, all_demand, depot_stock, made, has_split, least_split, steps}
use Rattle.problem.specs.Plans.{least_freight_at, total_at, best_split, stops}

pub data Outcome : Type 0 where
  -- split, total, freight, count of stops
  planned : ℕ → ℤ → ℤ → ℕ → Outcome
  -- number, place
  refused : ℕ → ℕ → Outcome

-- refusal k at place 0 where the condition holds
unfoldable pub refuse_if : ℕ → Bool → Option Outcome
refuse_if k true = some (refused k 0)
refuse_if k false = none

-- refusal k at the place found
unfoldable pub refuse_at : ℕ → Option ℕ → Option Outcome
refuse_at k none = none
refuse_at k (some p) = some (refused k p)

-- the first of the k numbers i, i + 1, .. that passes the test
unfoldable pub first_from : (ℕ → Bool) → ℕ → ℕ → Option ℕ
first_from p i zero = none
first_from p i (suc k) = elim (p i) [ true ↦ some i | false ↦ first_from p (suc i) k ]

infixr 20 ◌or_else◌
-- the first of two tests that refuses; the second is looked at only where the first passes
unfoldable pub ◌or_else◌ : Option Outcome → Option Outcome → Option Outcome
none or_else b = b
some r or_else b = some r

-- m not 2 to 32
unfoldable pub test1 : Case → Option Outcome
test1 c = refuse_if 1 (ltb c.m 2 || ltb 32 c.m)

-- n not 1 to 64
unfoldable pub test2 : Case → Option Outcome
test2 c = refuse_if 2 (ltb c.n 1 || ltb 64 c.n)

-- slice of costs, supplies or demands is not m × n, m, n long
unfoldable pub test3 : Case → Option Outcome
test3 c =
    refuse_if 3
    (not (eqb (length c.costs) (c.m * c.n))
    || (not (eqb (length c.supplies) c.m) || not (eqb (length c.demands) c.n)))

-- supply or demand above 4,000; place i, or m + j, from 1
unfoldable pub test4 : Case → Option Outcome
test4 c = refuse_at 4 (first_from (λ p. ltb 4000 (get_or (c.supplies ++ c.demands) (p - 1) 0)) 1 (c.m + c.n))

-- the first of two runs that is above its supply: 1 or 2
unfoldable pub first_over : ℕ → ℕ → ℕ → ℕ → Option ℕ
first_over r1 r2 a1 a2 = cond (ltb a1 r1) (some 1) (cond (ltb a2 r2) (some 2) none)

-- least run above its plant's supply; place 1 or 2
unfoldable pub test23 : Case → Option Outcome
test23 c = refuse_at 23 (first_over c.run1 c.run2 (supply c 0) (supply c 1))

-- unit cost below -1,000,000 or above 1,000,000; place: the lane in row order, from 1
unfoldable pub test5 : Case → Option Outcome
test5 c = refuse_at 5 (first_from (λ p. outside (get_or c.costs (p - 1) (pos 0))) 1 (c.m * c.n))

-- slice of ceilings not m × n long; or a ceiling above 4,000; place: the lane in row order, from 1
unfoldable pub test26 : Case → Option Outcome
test26 c =
    refuse_if 26 (not (eqb (length c.ceilings) (c.m * c.n)))
    or_else refuse_at 26 (first_from (λ p. ltb 4000 (get_or c.ceilings (p - 1) 0)) 1 (c.m * c.n))

-- table not a_1 + 1 long
unfoldable pub test6 : Case → Option Outcome
test6 c = refuse_if 6 (not (eqb (length c.table) (supply c 0 + 1)))

-- d below r_1 + r_2
unfoldable pub test7 : Case → Option Outcome
test7 c = refuse_if 7 (ltb (all_demand c) (depot_stock c + c.run1 + c.run2))

-- d above a_1 + a_2
unfoldable pub test8 : Case → Option Outcome
test8 c = refuse_if 8 (ltb (supply c 0 + supply c 1) (made c))

-- no split has a plan within the ceilings
unfoldable pub test27 : Case → Option Outcome
test27 c = refuse_if 27 (not (has_split c))

-- entry at a split above 1,000,000,000; place y
unfoldable pub test9 : Case → Option Outcome
test9 c = refuse_at 9 (first_from (λ y. ltb 1000000000 (entry c y)) (least_split c) (steps c + 1))

-- plan slice shorter than m × n, or a stop slice shorter than u - ℓ + 1
unfoldable pub test11 : Case → Option Outcome
test11 c =
    refuse_if 11
    (ltb c.plan_cells (c.m * c.n) || (ltb c.split_cells (steps c + 1) || ltb c.freight_cells (steps c + 1)))

-- the tests before the balance, in their order
unfoldable pub form_refusal : Case → Option Outcome
form_refusal c = test1 c or_else test2 c or_else test3 c or_else test4 c or_else test23 c or_else test5 c or_else test26 c or_else test6 c

-- all tests in their order
unfoldable pub refusal_of : Case → Option Outcome
refusal_of c =
    form_refusal c or_else test7 c or_else test8 c or_else test27 c or_else test9 c or_else test11 c

unfoldable pub plan_of : Case → Outcome
plan_of c = planned (best_split c) (total_at c (best_split c)) (least_freight_at c (best_split c)) (length (stops c))

-- what a case is answered
unfoldable pub outcome_of : Case → Outcome
outcome_of c = elim (refusal_of c) [ some r ↦ r | none ↦ plan_of c ]
