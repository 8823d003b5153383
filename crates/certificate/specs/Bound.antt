-- The certificate of an answer: prices p of the sources and q of the terminals, the bound that they give at a split, and what is accepted.
-- Plans, freights and totals are those of the case (crate problem). Assumes nothing.
use Rattle.std.specs.Prelude.{List, ℕ, ◌≤◌, ◌<◌, ℤ, pos, ◌+ℤ◌, ◌-ℤ◌, ◌*ℤ◌, ◌≤ℤ◌, ◌<ℤ◌}
use Rattle.transport.specs.Plan.{Table}
use Rattle.transport.specs.Curve.{amounts_at}
use Rattle.problem.specs.Integer.{minℤ, sumℤ}
use Rattle.problem.specs.Freight.{Rates, rates_by_row}
use Rattle.problem.specs.Case.{Case, supply, demand, ceiling, entry, made, lowest_split, highest_split}
use Rattle.problem.specs.Plans.{row_sum, MeetsTP, plan_total}

-- what a lane of unit cost c can lower the freight by, for each drum, where the price rises from p to q: nothing, or c + p - q below 0
unfoldable pub gain : ℤ → ℤ → ℤ → ℤ
gain c p q = minℤ (pos 0) (c +ℤ p -ℤ q)

-- the bound: Σ q_j b_j - Σ p_i r_i + Σ min(0, c_ij + p_i - q_j) k_ij, where source i sends r_i and terminal j gets b_j
unfoldable pub bound : ℕ → ℕ → Rates → Table → (ℕ → ℕ) → (ℕ → ℕ) → (ℕ → ℤ) → (ℕ → ℤ) → ℤ
bound m n c k r b p q =
    sumℤ n (λ j. q j *ℤ pos (b j)) -ℤ sumℤ m (λ i. p i *ℤ pos (r i))
    +ℤ sumℤ m (λ i. sumℤ n (λ j. gain (c i j) (p i) (q j) *ℤ pos (k i j)))

-- the bound at split y of a case, at unit costs c
unfoldable pub bound_with : Case → Rates → (ℕ → ℤ) → (ℕ → ℤ) → ℕ → ℤ
bound_with a c p q y = bound a.m a.n c (ceiling a) (amounts_at (made a) (λ i. supply a i) y) (λ j. demand a j) p q

-- at the case's own unit costs: no plan at y has a smaller freight
unfoldable pub bound_at : Case → (ℕ → ℤ) → (ℕ → ℤ) → ℕ → ℤ
bound_at a p q y = bound_with a (rates_by_row a.n a.costs) p q y

-- at unit costs 0: where it is above 0, there is no plan at y
unfoldable pub cut_at : Case → (ℕ → ℤ) → (ℕ → ℤ) → ℕ → ℤ
cut_at a p q y = bound_with a (λ i j. pos 0) p q y

-- what prices show of split y against a plan of this split and total: there is no plan, or none that is cheaper, and none as cheap at a smaller split
pub data Shown (a : Case) (split : ℕ) (total : ℤ) (p q : ℕ → ℤ) (y : ℕ) : Type 0 where
  none : pos 0 <ℤ cut_at a p q y → Shown a split total p q y
  dearer : total ≤ℤ (bound_at a p q y +ℤ pos (entry a y)) → (y < split → total <ℤ (bound_at a p q y +ℤ pos (entry a y))) → Shown a split total p q y

-- an accepted certificate: the plan meets (TP), the least runs and the ceilings, and at each split y within supplies and runs the prices p y, q y show it
pub record Accepted (a : Case) (x : List ℕ) (p q : ℕ → ℕ → ℤ) : Type 0 where
  pub plan : MeetsTP a x
  pub shown : (y : ℕ) → lowest_split a ≤ y → y ≤ highest_split a → Shown a (row_sum a x 0) (plan_total a x) (p y) (q y) y

-- an accepted certificate of no plan: at each split within supplies and runs the prices show that there is none
abbrev pub NoneShown : Case → (ℕ → ℕ → ℤ) → (ℕ → ℕ → ℤ) → Type 0
NoneShown a p q = (y : ℕ) → lowest_split a ≤ y → y ≤ highest_split a → pos 0 <ℤ cut_at a (p y) (q y) y
