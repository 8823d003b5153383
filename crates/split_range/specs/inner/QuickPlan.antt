-- What the simplex's plan is, where it passes the check. Assumes nothing.
use Rattle.std.specs.Prelude.{◌≡◌, ℕ, List, Option, Some}
use Rattle.residual.specs.inner.Network.{net}
use Rattle.residual.specs.inner.LanesInUse.{Covers}
use Rattle.firstsplit.specs.inner.FirstPlan.{FirstPlan}
use Rattle.split_range.specs.inner.Range.{amount_in, BeginReady}

-- a first plan, whatever least run of plant 2 the case has, with the lanes in use, where a split is answered; where none is, nothing is said
pub record Quick (m n : ℕ) (cost cap x supply demand : List ℕ) (run0 d : ℕ) (p' x' s : List ℕ) (split : Option ℕ) : Type 0 where
  pub plan : (y : ℕ) → split ≡ Some y → (run1 : ℕ) → BeginReady m n cost cap supply demand run0 run1 d → FirstPlan (net m n cost cap x) (amount_in supply) demand run0 run1 d p' x' (Some y)
  pub covers : (y : ℕ) → split ≡ Some y → Covers m n x' s
