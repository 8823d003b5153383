-- What a caller outside Rattle is told: a number, a report in a lent slice, and total and freight in another. Assumes nothing.
use Rattle.std.specs.Prelude.{◌≡◌, cond, ◌||◌, List, [], ◌∷◌, ℕ, ltb, ℤ, length}
use Rattle.transport.specs.Curve.{written}
use Rattle.problem.specs.Case.{Case}
use Rattle.problem.specs.Outcome.{Outcome, planned, refused, outcome_of}
use Rattle.planner.specs.Answer.{Slices, Answered}

-- 0 for a plan, else the refusal's number
abbrev pub number_of : Outcome → ℕ
number_of (planned s t f k) = 0
number_of (refused k p) = k

-- split and count of stops of a plan; the place of a refusal
abbrev pub report_of : Outcome → List ℕ
report_of (planned s t f k) = s ∷ k ∷ []
report_of (refused k p) = p ∷ []

-- total and freight of a plan; nothing of a refusal
abbrev pub worth_of : Outcome → List ℤ
worth_of (planned s t f k) = t ∷ f ∷ []
worth_of (refused k p) = []

-- the answer to a report or a worth of fewer than two cells: a number that is none of the paper's
abbrev pub short_report : ℕ
short_report = 34

-- both are long enough: the number, the report and the worth are those of the outcome, the lent slices are as the planner promises, the plan's cells
-- too (`Written.cells`), so nothing that is told is left to the program
pub record Told (c : Case) (before after : Slices) (report reported : List ℕ) (worth valued : List ℤ) (r : ℕ) : Type 0 where
  pub number : r ≡ number_of (outcome_of c)
  pub cells : reported ≡ written (report_of (outcome_of c)) report
  pub values : valued ≡ written (worth_of (outcome_of c)) worth
  pub answered : Answered c (outcome_of c) before after

-- one is too short: nothing is written
pub record Untold (before after : Slices) (report reported : List ℕ) (worth valued : List ℤ) (r : ℕ) : Type 0 where
  pub number : r ≡ short_report
  pub cells : reported ≡ report
  pub values : valued ≡ worth
  pub slices : after ≡ before

-- all that is promised, by the two lengths
unfoldable pub Exported : Case → Slices → Slices → List ℕ → List ℕ → List ℤ → List ℤ → ℕ → Type 0
Exported c before after report reported worth valued r =
    cond (ltb (length report) 2 || ltb (length worth) 2) (Untold before after report reported worth valued r)
    (Told c before after report reported worth valued r)
