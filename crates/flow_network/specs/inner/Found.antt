-- What the planner's answer to a network's case is told as: contracts. Assumes nothing.
use Rattle.std.specs.Prelude.{◌≡◌, List, ℕ, Option, Some, None}
use Rattle.transport.specs.Curve.{written}
use Rattle.problem.specs.Case.{Case}
use Rattle.problem.specs.Plans.{plan_for}
use Rattle.problem.specs.Outcome.{refused, outcome_of}
use Rattle.problem.specs.Promise.{Cheapest, Bounded, BalanceRule}
use Rattle.flow_network.specs.declared.carry.Found.{Found}

-- a plan was found and its cells written; or the case is refused, by the planner's own rule, and the cells are as before
abbrev pub FoundAs : Case → List ℕ → List ℕ → Option Found → Type 0
FoundAs c before after (Some f) = Cheapest c (plan_for c f.split) f.split f.total × (after ≡ written (plan_for c f.split) before) × Bounded f.total
FoundAs c before after None = (after ≡ before) × (k : ℕ) × (p : ℕ) × (outcome_of c ≡ refused k p) × BalanceRule c (refused k p)

pub record FoundIs (c : Case) (before after : List ℕ) (r : Option Found) : Type 0 where
  pub found : FoundAs c before after r
