-- The one plan of W-214 by the same bound: with unit costs made finer by a digit for each lane, the first lane's the greatest, the plan that is
-- due is the cheapest of all. Assumes nothing.
use Rattle.std.specs.Prelude.{◌≡◌, ◌⊎◌, List, ℕ, zero, suc, ◌+◌, ◌-◌, ◌*◌, ℤ, pos, ◌+ℤ◌, ◌*ℤ◌, ◌≤ℤ◌}
use Rattle.transport.specs.Plan.{by_row}
use Rattle.transport.specs.Canonical.{Before}
use Rattle.problem.specs.Freight.{Rates, rates_by_row, freightℤ}
use Rattle.problem.specs.Case.{Case}
use Rattle.problem.specs.Plans.{freight_of, PlanAt}
use Rattle.certificate.specs.Bound.{bound_with}

-- 4,001 to the power k: amounts up to 4,000 are digits
unfoldable pub power : ℕ → ℕ
power zero = 1
power (suc k) = 4001 * power k

-- the digit of lane (i, j), at place e of the m n lanes: 4,001^(m n - 1 - e)
unfoldable pub digit : Case → ℕ → ℕ → ℕ
digit a i j = power (a.m * a.n - suc (i * a.n + j))

-- the unit cost times 4,001^(m n), and the lane's digit
unfoldable pub finer : Case → Rates
finer a i j = rates_by_row a.n a.costs i j *ℤ pos (power (a.m * a.n)) +ℤ pos (digit a i j)

-- at the finer costs prices show of the plan x at split y that none is cheaper
abbrev pub OneShown : Case → ℕ → List ℕ → (ℕ → ℤ) → (ℕ → ℤ) → Type 0
OneShown a y x p q = freightℤ a.m a.n (finer a) (by_row a.n x) ≤ℤ bound_with a (finer a) p q y

-- x is due at split y: no plan there has a smaller freight, and of those of this freight x has the smaller amount at the first lane where they differ
pub record Due (a : Case) (y : ℕ) (x : List ℕ) : Type 0 where
  pub least : (z : List ℕ) → PlanAt a y z → freight_of a x ≤ℤ freight_of a z
  pub first : (z : List ℕ) → PlanAt a y z → freight_of a x ≡ freight_of a z → (x ≡ z) ⊎ Before x z
