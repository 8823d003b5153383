-- What a caller outside Rattle is told of the splits that can be the cheapest: a number, a report in a lent slice, and the two totals in
-- another. Assumes nothing.
use Rattle.std.specs.Prelude.{◌≡◌, cond, ◌||◌, List, [], ◌∷◌, ℕ, ltb, ℤ, length}
use Rattle.transport.specs.Curve.{written}
use Rattle.problem.specs.Case.{Case}
use Rattle.bounds_problem.specs.Answers.{Outcome, known, refused, outcome_of, Answered}
use Rattle.export_reports.specs.Report.{short_report}

-- 0 for an answer, else the refusal's number
abbrev pub number_of : Outcome → ℕ
number_of (known i n s l) = 0
number_of (refused k p) = k

-- the first split and the count of splits; the place of a refusal
abbrev pub report_of : Outcome → List ℕ
report_of (known i n s l) = i ∷ n ∷ []
report_of (refused k p) = p ∷ []

-- the smallest and the largest that the least total can be; nothing of a refusal
abbrev pub worth_of : Outcome → List ℤ
worth_of (known i n s l) = s ∷ l ∷ []
worth_of (refused k p) = []

-- report and worth are long enough: the number, the report and the worth are those of the outcome, the answers are as promised
pub record BoundsTold (c : Case) (high before after report reported : List ℕ) (worth valued : List ℤ) (r : ℕ) : Type 0 where
  pub number : r ≡ number_of (outcome_of c high (length before))
  pub cells : reported ≡ written (report_of (outcome_of c high (length before))) report
  pub values : valued ≡ written (worth_of (outcome_of c high (length before))) worth
  pub answered : Answered c high (outcome_of c high (length before)) before after

-- one is too short: nothing is written
pub record BoundsUntold (before after report reported : List ℕ) (worth valued : List ℤ) (r : ℕ) : Type 0 where
  pub number : r ≡ short_report
  pub cells : reported ≡ report
  pub values : valued ≡ worth
  pub answers : after ≡ before

-- all that is promised, by the two lengths
unfoldable pub BoundsExported : Case → List ℕ → List ℕ → List ℕ → List ℕ → List ℕ → List ℤ → List ℤ → ℕ → Type 0
BoundsExported c high before after report reported worth valued r =
    cond (ltb (length report) 2 || ltb (length worth) 2) (BoundsUntold before after report reported worth valued r)
    (BoundsTold c high before after report reported worth valued r)
