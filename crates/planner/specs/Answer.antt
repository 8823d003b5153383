-- The answer in the paper's numbers and values, and all that is promised of an answer. Assumes nothing.
use Rattle.std.specs.Prelude.{◌≡◌, List, ℕ, ℤ, Result, Ok, Err}
use Rattle.transport.specs.Curve.{written}
use Rattle.problem.specs.Case.{Case}
use Rattle.problem.specs.Plans.{PlanAt, freight_of, least_freight_at, plan_for, stops, stop_freights}
use Rattle.problem.specs.Outcome.{Outcome, planned, refused, outcome_of}
use Rattle.problem.specs.Promise.{Cheapest, Bounded, BalanceRule}
use Rattle.refusal.specs.Number.{number_of}
use Rattle.refusal.specs.declared.Refusal.{Refusal}
use Rattle.planner.specs.declared.Planned.{Planned}

-- a plan is its split, total, freight and count of stops; a refusal is its number and place
abbrev pub outcome : Result Planned Refusal → Outcome
outcome (Ok p) = planned p.split p.total p.freight p.stops
outcome (Err r) = refused (number_of r.cause) r.place

-- what the three lent slices hold: the plan's, and the two of the stops
pub record Slices : Type 0 where
  pub plan : List ℕ
  pub splits : List ℕ
  pub freights : List ℤ

abbrev pub slices : List ℕ → List ℕ → List ℤ → Slices
slices p s f = record { plan = p; splits = s; freights = f }

-- a plan was written: the one for everybody at this split, with what holds of it
pub record Written (c : Case) (split : ℕ) (total : ℤ) (before after : Slices) : Type 0 where
  pub cells : after.plan ≡ written (plan_for c split) before.plan
  pub plan : PlanAt c split (plan_for c split)
  pub freight : freight_of c (plan_for c split) ≡ least_freight_at c split
  pub cheapest : Cheapest c (plan_for c split) split total
  pub bounded : Bounded total
  pub splits : after.splits ≡ written (stops c) before.splits
  pub freights : after.freights ≡ written (stop_freights c) before.freights

-- the promise: the answer is the definition's; a plan is written as said; a refusal changes no cell; the balance rule
pub record Answered (c : Case) (r : Outcome) (before after : Slices) : Type 0 where
  pub answer : r ≡ outcome_of c
  pub written : (s : ℕ) (t f : ℤ) (k : ℕ) → r ≡ planned s t f k → Written c s t before after
  pub kept : (k p : ℕ) → r ≡ refused k p → after ≡ before
  pub balance : BalanceRule c r
