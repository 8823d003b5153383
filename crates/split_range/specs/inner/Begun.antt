-- Where the engine stands after step 1: a cheapest plan at the first split, with its potentials, and a plan at the last. Assumes nothing.
use Rattle.std.specs.Prelude.{ℕ, ◌-◌, ◌≤◌, List}
use Rattle.transport.specs.inner.AtSplit.{At}
use Rattle.residual.specs.inner.Cells.{cells}
use Rattle.residual.specs.inner.Network.{net, get}
use Rattle.residual.specs.inner.LanesInUse.{Covers}
use Rattle.lastsplit.specs.inner.PlantShift.{PlantSlack}
use Rattle.lastsplit.specs.inner.LastSplit.{Some}

pub record Begun (m n : ℕ) (cost cap : List ℕ) (a b : ℕ → ℕ) (d lo hi : ℕ) (x serves p : List ℕ) : Type 0 where
  pub plant_slack : PlantSlack (net m n cost cap x) (get p 1) p x
  pub at : At m n a b lo (d - lo) (cells x)
  pub end : Some m n (cells cap) a b hi (d - hi)
  pub covers : Covers m n x serves
  pub order : lo ≤ hi
  pub within : hi ≤ d
