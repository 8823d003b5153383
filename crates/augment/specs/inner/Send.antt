-- A whole send: drums go along a cheapest path to a node with room, and the potentials follow. Assumes nothing.
use Rattle.std.specs.Prelude.{◌≡◌, Option, None, Some, List, ℕ, ◌+◌, ◌≤◌, ◌<◌, length}
use Rattle.transport.specs.Plan.{Under}
use Rattle.transport.specs.inner.Slackness.{Slack}
use Rattle.transport.specs.inner.PathFlow.{Step, Flow}
use Rattle.residual.specs.inner.Cells.{cells}
use Rattle.residual.specs.inner.Network.{Net, get}
use Rattle.paths.specs.inner.Search.{Sound, Stuck}
use Rattle.augment.specs.declared.send.Sent.{Sent}

pub record SendReady (N : Net) (p room : List ℕ) (s limit : ℕ) (x : List ℕ) : Type 0 where
  pub sound : Sound N p
  pub under : Under N.m N.n N.x N.u
  pub ceilings : (i j : ℕ) → i < N.m → j < N.n → N.u i j ≤ 4000000000
  pub long_x : length x ≡ 2048
  pub long_p : length p ≡ 96
  pub start : s < N.m
  pub positive : 0 < limit
  pub floor : (v : ℕ) → v < 96 → 0 < get room v → 384000000 ≤ get p v

-- d drums went from s to g: the amounts are x', the potentials p'
pub record Delivered (N : Net) (p room : List ℕ) (s limit : ℕ) (x' p' : List ℕ) (g d : ℕ) : Type 0 where
  pub has_room : 0 < get room g
  pub some : 0 < d
  pub most : d ≤ limit
  pub fits : d ≤ get room g
  pub flow : Flow N.m N.n d N.x (cells x') g s
  pub steps : (i j : ℕ) → i < N.m → j < N.n → Step d (N.x i j) (cells x' i j)
  pub under : Under N.m N.n (cells x') N.u
  pub old : Slack N.m N.n N.c N.u N.x (λ i. get p' i) (λ j. get p' (32 + j))
  pub new : Slack N.m N.n N.c N.u (cells x') (λ i. get p' i) (λ j. get p' (32 + j))
  pub long_x : length x' ≡ 2048
  pub long_p : length p' ≡ 96
  pub fall : (v : ℕ) → v < 96 → get p' v ≤ get p v
  pub keep : (v : ℕ) → v < 96 → 0 < get room v → get p' v ≡ get p v
  pub floor : (v f : ℕ) → v < 96 → f ≤ get p v → f + 384000000 ≤ get p g → f ≤ get p' v

-- nothing went
pub record NoPath (N : Net) (p room : List ℕ) (s : ℕ) (x x' p' : List ℕ) : Type 0 where
  pub labels : List ℕ
  pub stuck : Stuck N room s labels
  pub same_x : x' ≡ x
  pub same_p : p' ≡ p

-- what a send answers: where the drums went and how many, or that nothing went
abbrev pub SendDone : Net → List ℕ → List ℕ → ℕ → ℕ → List ℕ → List ℕ → List ℕ → Option Sent → Type 0
SendDone N p room s limit x x' p' (Some sent) = (sent.goal < 96) × Delivered N p room s limit x' p' sent.goal sent.amount
SendDone N p room s limit x x' p' None = NoPath N p room s x x' p'
