-- What a case with two tables is answered: the refusals 28 and 11 after the planner's, and all that is promised of an answer. Assumes nothing.
use Rattle.std.specs.Prelude.{◌≡◌, Bool, cond, ◌||◌, List, ℕ, ◌+◌, ◌-◌, eqb, ltb, ℤ, length, get_or, Result, Ok, Err}
use Rattle.std.proofs.Math.Option.{Option, none, some}
use Rattle.transport.specs.Curve.{written}
use Rattle.problem.specs.Case.{Case, supply, entry, least_split, lent}
use Rattle.problem.specs.Outcome.{first_from}
use Rattle.problem.specs.Outcome as planner
use Rattle.bounds_problem.specs.Tables.{Split, after, Possible, least_total, Smallest, Largest, marks}
use Rattle.refusal.specs.Number.{number_of}
use Rattle.refusal.specs.declared.Refusal.{Refusal}
use Rattle.bounds_problem.specs.declared.Known.{Known}

pub data Outcome : Type 0 where
  -- the first split, how many splits there are, and the smallest and the largest that the least total can be
  known : ℕ → ℕ → ℤ → ℤ → Outcome
  -- number, place
  refused : ℕ → ℕ → Outcome

-- an answer in the paper's numbers and values
abbrev pub outcome : Result Known Refusal → Outcome
outcome (Ok k) = known k.first k.count k.smallest k.largest
outcome (Err r) = refused (number_of r.cause) r.place

-- the case with the low table as its own, and with room for any plan and any stops: 2,048 lanes and 4,001 splits
abbrev pub lowCase : ℕ → ℕ → ℕ → ℕ → List ℤ → List ℕ → List ℕ → List ℕ → List ℕ → Case
lowCase m n run1 run2 costs supplies demands ceilings low = lent m n run1 run2 costs supplies demands ceilings low 2048 4001 4001

-- the high entry at y is below its low or above 1,000,000,000
unfoldable pub badEntry : Case → List ℕ → ℕ → Bool
badEntry c high y = ltb (get_or high y 0) (entry c y) || ltb 1000000000 (get_or high y 0)

-- refusal 28: high table not a_1 + 1 long, place 0; else a bad entry at a split, place y
unfoldable pub place28 : Case → List ℕ → Option ℕ
place28 c high =
    cond (eqb (length high) (supply c 0 + 1)) (first_from (badEntry c high) (least_split c) (after c + 1)) (some 0)

-- past the planner's tests: 28, then 11 for answers shorter than u - ℓ + 1
unfoldable pub laterOf : Case → List ℕ → ℕ → Outcome
laterOf c high cells = elim (place28 c high) [
  | some p ↦ refused 28 p
  | none ↦ cond (ltb cells (after c + 1)) (refused 11 0) (known (least_split c) (after c + 1) (least_total c c.table) (least_total c high))
]

-- what is answered
unfoldable pub outcome_of : Case → List ℕ → ℕ → Outcome
outcome_of c high cells = elim (planner.outcome_of c) [ planner.refused k p ↦ refused k p | planner.planned s t f k ↦ laterOf c high cells ]

-- what holds of an answer that was given: each cell is its split's mark, later ones are kept; the marks say which splits can be the cheapest
pub record Given (c : Case) (high : List ℕ) (s l : ℤ) (before cells : List ℕ) : Type 0 where
  pub marked : cells ≡ written (marks c high) before
  pub yes : (y : ℕ) → Split c y → get_or cells (y - least_split c) 0 ≡ 1 → Possible c high y
  pub no : (y : ℕ) → Split c y → get_or cells (y - least_split c) 0 ≡ 0 → Possible c high y → ⊥
  pub smallest : Smallest c high s
  pub largest : Largest c high l

-- the promise
pub record Answered (c : Case) (high : List ℕ) (r : Outcome) (before cells : List ℕ) : Type 0 where
  pub answer : r ≡ outcome_of c high (length before)
  pub given : (first count : ℕ) (s l : ℤ) → r ≡ known first count s l → Given c high s l before cells
  pub kept : (k p : ℕ) → r ≡ refused k p → cells ≡ before
