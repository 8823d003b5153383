-- What a caller outside Rattle is told of a network's least-cost flow: a number, a report in a lent slice, and the total in another. Assumes
-- nothing.
use Rattle.std.specs.Prelude.{◌≡◌, cond, ◌||◌, List, [], ◌∷◌, ℕ, ltb, ℤ, length}
use Rattle.transport.specs.Curve.{written}
use Rattle.dimacs.specs.Form.{form_of}
use Rattle.flow_problem.specs.Answer.{Outcome, carried, refused, outcome_of}
use Rattle.flow_problem.specs.Promise.{Slices, room_of, Answered}
use Rattle.flow_network.specs.Answer.{arcs_said}
use Rattle.export_reports.specs.Report.{short_report}

-- 0 for a flow, else the refusal's number
abbrev pub number_of : Outcome → ℕ
number_of (carried t) = 0
number_of (refused k p) = k

-- the count of arcs; the place of a refusal
abbrev pub report_of : ℕ → Outcome → List ℕ
report_of n (carried t) = n ∷ []
report_of n (refused k p) = p ∷ []

-- the total; nothing of a refusal
abbrev pub worth_of : Outcome → List ℤ
worth_of (carried t) = t ∷ []
worth_of (refused k p) = []

-- both have a cell: the number, the report and the worth are those of the outcome, the flow and the arcs are as promised
pub record FlowTold (bytes : List ℕ) (place : ℕ) (table : List ℕ) (before after : Slices) (report reported : List ℕ) (worth valued : List ℤ) (r : ℕ) : Type 0 where
  pub number : r ≡ number_of (outcome_of bytes place table (room_of before))
  pub cells : reported ≡ written (report_of (arcs_said (form_of bytes)) (outcome_of bytes place table (room_of before))) report
  pub values : valued ≡ written (worth_of (outcome_of bytes place table (room_of before))) worth
  pub answered : Answered bytes place table (outcome_of bytes place table (room_of before)) before after

-- one has none: nothing is written
pub record FlowUntold (before after : Slices) (report reported : List ℕ) (worth valued : List ℤ) (r : ℕ) : Type 0 where
  pub number : r ≡ short_report
  pub cells : reported ≡ report
  pub values : valued ≡ worth
  pub slices : after ≡ before

-- all that is promised, by the two lengths
unfoldable pub FlowExported : List ℕ → ℕ → List ℕ → Slices → Slices → List ℕ → List ℕ → List ℤ → List ℤ → ℕ → Type 0
FlowExported bytes place table before after report reported worth valued r =
    cond (ltb (length report) 1 || ltb (length worth) 1) (FlowUntold before after report reported worth valued r)
    (FlowTold bytes place table before after report reported worth valued r)
