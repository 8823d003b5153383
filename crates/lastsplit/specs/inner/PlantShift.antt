-- What the engine keeps in the sweep from split to split, and what becomes of a plan when drums go over from plant 2 to plant 1. Assumes nothing.
use Rattle.std.specs.Prelude.{◌≡◌, ℕ, ◌+◌, ◌<◌, ◌≤◌, List, length}
use Rattle.transport.specs.Plan.{Under}
use Rattle.transport.specs.inner.Slackness.{Slack}
use Rattle.transport.specs.inner.PathFlow.{Step, Flow}
use Rattle.residual.specs.inner.Cells.{cells}
use Rattle.residual.specs.inner.Network.{Net, get, again}
use Rattle.paths.specs.inner.Search.{Sound}

-- a slack plan x of N whose plant 2 has the potential P
pub record PlantSlack (N : Net) (P : ℕ) (p x : List ℕ) : Type 0 where
  pub sound : Sound N p
  pub under : Under N.m N.n N.x N.u
  pub ceilings : (i j : ℕ) → i < N.m → j < N.n → N.u i j ≤ 4000000000
  pub long_x : length x ≡ 2048
  pub long_p : length p ≡ 96
  pub plants : 1 < N.m
  pub one : get p 1 ≡ P
  pub high : 416000000 ≤ P
  pub floor : (v : ℕ) → v < 96 → 32000000 ≤ get p v

-- d drums went over from plant 2 to plant 1; both plans are slack under the new potentials
pub record Over (N : Net) (P limit : ℕ) (p' x' : List ℕ) (d : ℕ) : Type 0 where
  pub plant_slack : PlantSlack (again N x') P p' x'
  pub most : d ≤ limit
  pub flow : Flow N.m N.n d N.x (cells x') 1 0
  pub steps : (i j : ℕ) → i < N.m → j < N.n → Step d (N.x i j) (cells x' i j)
  pub old : Slack N.m N.n N.c N.u N.x (λ i. get p' i) (λ j. get p' (32 + j))
  pub new : Slack N.m N.n N.c N.u (cells x') (λ i. get p' i) (λ j. get p' (32 + j))
