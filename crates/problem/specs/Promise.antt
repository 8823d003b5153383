-- What is promised of the plan given and of the refusals for balance, for any plan that meets (TP), the least runs and the ceilings. Assumes nothing.
use Rattle.std.specs.Prelude.{◌≡◌, ◌⊎◌, List, ℕ, ◌<◌, ℤ, pos, neg_ℤ, ◌≤ℤ◌, ◌<ℤ◌}
use Rattle.std.proofs.Math.Option.{none}
use Rattle.problem.specs.Case.{Case}
use Rattle.problem.specs.Plans.{row_sum, MeetsTP, plan_total}
use Rattle.problem.specs.Outcome.{Outcome, refused, form_refusal}

-- x meets (TP), split and total are its own, no plan that meets (TP) has a lower total, and each with a smaller split has a higher one
pub record Cheapest (c : Case) (x : List ℕ) (split : ℕ) (total : ℤ) : Type 0 where
  pub plan : MeetsTP c x
  pub own_split : row_sum c x 0 ≡ split
  pub own_total : plan_total c x ≡ total
  pub least : (z : List ℕ) → MeetsTP c z → total ≤ℤ plan_total c z
  pub smaller : (z : List ℕ) → MeetsTP c z → row_sum c z 0 < split → total <ℤ plan_total c z

-- the total of a plan given lies between -128,000,000,000 and 129,000,000,000
pub record Bounded (total : ℤ) : Type 0 where
  pub low : neg_ℤ (pos 128000000000) ≤ℤ total
  pub high : total ≤ℤ pos 129000000000

-- no plan meets (TP)
abbrev pub NoPlan : Case → Type 0
NoPlan c = (x : List ℕ) → MeetsTP c x → ⊥

-- one of the refusals for balance
abbrev pub Unbalanced : Outcome → Type 0
Unbalanced o = (o ≡ refused 7 0) ⊎ ((o ≡ refused 8 0) ⊎ (o ≡ refused 27 0))

-- of a case that passes the tests before the balance, the outcome o is a refusal for balance exactly where no plan meets (TP)
pub record BalanceRule (c : Case) (o : Outcome) : Type 0 where
  pub no_plan : form_refusal c ≡ none → Unbalanced o → NoPlan c
  pub refuses : form_refusal c ≡ none → NoPlan c → Unbalanced o
