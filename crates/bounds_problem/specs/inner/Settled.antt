-- What the judgement of two tables rests on: the planner's stops in the first cells, and its answer from the curve drawn. Assumes nothing.
use Rattle.std.specs.Prelude.{◌≡◌, List, ℕ, ◌≤◌, ◌<◌, ℤ, pos, length, get_or}
use Rattle.std.proofs.Math.IntN.{sub_ℕ}
use Rattle.problem.specs.Plans.{least_freight_at, stops}
use Rattle.problem.specs.Case.{Case}
use Rattle.problem.specs.Outcome as planner
use Rattle.bounds_problem.specs.inner.Heights.{least_sum}
use Rattle.bounds_problem.specs.Answers.{Outcome, known}

-- the planner gave the case a plan, and its stops stand in the first cells
pub record Listed (c : Case) (s : List ℕ) (f : List ℤ) (count : ℕ) : Type 0 where
  pub given : (y : ℕ) × (t : ℤ) × (v : ℤ) × (planner.outcome_of c ≡ planner.planned y t v count)
  pub all : count ≡ length (stops c)
  pub in_splits : count ≤ length s
  pub in_freights : count ≤ length f
  pub splits : (k : ℕ) → k < count → get_or s k 0 ≡ get_or (stops c) k 0
  pub freights : (k : ℕ) → k < count → get_or f k (pos 0) ≡ least_freight_at c (get_or (stops c) k 0)

-- the first split, the count of entries, and the two least sums as numbers
unfoldable pub settled_of : ℕ → List ℕ → List ℕ → List ℕ → Outcome
settled_of lo curve lows highs = known lo (length lows) (sub_ℕ (least_sum curve lows) 128000000000) (sub_ℕ (least_sum curve highs) 128000000000)
