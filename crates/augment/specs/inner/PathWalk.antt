-- The walk back from the goal of a path, arc by arc: what it asks, what it leaves, what it keeps. Assumes nothing.
use Rattle.std.specs.Prelude.{◌≡◌, ◌≢◌, List, ℕ, zero, suc, ◌+◌, ◌-◌, ◌*◌, ◌≤◌, ◌<◌, length, set}
use Rattle.transport.specs.Plan.{Under}
use Rattle.transport.specs.inner.PathFlow.{Flow, Trace}
use Rattle.residual.specs.inner.Cells.{cells}
use Rattle.residual.specs.inner.Network.{Net, get}
use Rattle.residual.specs.inner.Labels.{Book, far}
use Rattle.paths.specs.inner.Search.{Near, Label}

-- ---- the walk

-- one arc of the walk, from w to v
pub record CarryReady (v w d : ℕ) (x : List ℕ) : Type 0 where
  pub less : v < 32 → (32 ≤ w) × (w < 96) × (d ≤ get x (v * 64 + (w - 32)))
  pub more : 32 ≤ v → (w < 32) × (v < 96) × (get x (w * 64 + (v - 32)) + d ≤ 4000000000)

pub record Carried (v w d : ℕ) (x x' : List ℕ) : Type 0 where
  pub less : v < 32 → x' ≡ set x (v * 64 + (w - 32)) (get x (v * 64 + (w - 32)) - d)
  pub more : 32 ≤ v → x' ≡ set x (w * 64 + (v - 32)) (get x (w * 64 + (v - 32)) + d)

-- a walk of h arcs back from v can be made, with amounts x, whatever its steps leave
unfoldable pub Walkable : List ℕ → ℕ → ℕ → ℕ → List ℕ → Type 0
Walkable P d zero v x = Unit {0}
Walkable P d (suc h) v x = (v < 96) × CarryReady v (get P v) d x × ((y : List ℕ) → Carried v (get P v) d x y → Walkable P d h (get P v) y)

-- it was made, and left x'
unfoldable pub Walked : List ℕ → ℕ → ℕ → ℕ → List ℕ → List ℕ → Type 0
Walked P d zero v x x' = x' ≡ x
Walked P d (suc h) v x x' = (y : List ℕ) × Carried v (get P v) d x y × Walked P d h (get P v) y x'

-- ---- the walk over labels

-- a lane that the walk has changed is tight, and its ends are no farther than the goal
pub record Tight (N : Net) (p T : List ℕ) (g i j : ℕ) : Type 0 where
  pub even : get T (32 + j) ≡ get T i + N.c i j
  pub source : Near p T g i
  pub terminal : Near p T g (32 + j)

pub record WalkReady (N : Net) (p : List ℕ) (s limit : ℕ) (B : Book) (g d : ℕ) (x : List ℕ) : Type 0 where
  pub sources : N.m ≤ 32
  pub terminals : N.n ≤ 64
  pub goal : g < 96
  pub labelled : get B.dist g < far
  pub label : (v : ℕ) → v < 96 → get B.dist v < far → Label N s (Near p B.dist g) p 96 limit B v
  pub width : d ≤ get B.width g
  pub under : Under N.m N.n N.x N.u
  pub ceilings : (i j : ℕ) → i < N.m → j < N.n → N.u i j ≤ 4000000000
  pub long : length x ≡ 2048
  pub plan : N.x ≡ cells x

-- the walk stands at v
pub record Walking (N : Net) (p : List ℕ) (B : Book) (g d : ℕ) (x : List ℕ) (v : ℕ) : Type 0 where
  pub node : v < 96
  pub near : Near p B.dist g v
  pub width : d ≤ get B.width v
  pub flow : Flow N.m N.n d N.x (cells x) g v
  pub trace : Trace N.m N.n d N.x (cells x) (λ w. get B.hops w) (get B.hops v)
  pub under : Under N.m N.n (cells x) N.u
  pub tight : (i j : ℕ) → i < N.m → j < N.n → cells x i j ≢ N.x i j → Tight N p B.dist g i j
  pub long : length x ≡ 2048
