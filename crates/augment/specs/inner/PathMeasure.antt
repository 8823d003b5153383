-- The measure of a path: its arcs, and the smallest ceiling on it. Assumes nothing.
use Rattle.std.specs.Prelude.{◌≡◌, List, ℕ, min, ◌+◌, ◌-◌, ◌*◌, ◌≤◌, ◌<◌}
use Rattle.residual.specs.inner.Network.{net, get}
use Rattle.residual.specs.inner.Labels.{far}
use Rattle.paths.specs.inner.Search.{Labelled}

-- what the arc from w to v can carry: the drums of a lane in use backwards, or what a lane can still take
pub record ResidualReady (v w : ℕ) (x cap : List ℕ) : Type 0 where
  pub less : v < 32 → (32 ≤ w) × (w < 96)
  pub more : 32 ≤ v → (w < 32) × (v < 96) × (get x (w * 64 + (v - 32)) ≤ get cap (w * 64 + (v - 32)))

pub record Residual (v w : ℕ) (x cap : List ℕ) (r : ℕ) : Type 0 where
  pub less : v < 32 → r ≡ get x (v * 64 + (w - 32))
  pub more : 32 ≤ v → r ≡ get cap (w * 64 + (v - 32)) - get x (w * 64 + (v - 32))

-- a search found g, and P has the nodes before
pub record Route (P x cap : List ℕ) (s g limit : ℕ) : Type 0 where
  pub m : ℕ
  pub n : ℕ
  pub cost : List ℕ
  pub p : List ℕ
  pub room : List ℕ
  pub dist : List ℕ
  pub sources : m ≤ 32
  pub goal : g < 96
  pub labelled : Labelled (net m n cost cap x) p room s limit dist P g

-- the walk back to s stands at v, after count arcs whose smallest ceiling is amount
pub record Midway (T H W : List ℕ) (g v count amount : ℕ) : Type 0 where
  pub node : v < 96
  pub label : get T v < far
  pub arcs : count + get H v ≡ get H g
  pub width : min amount (get W v) ≡ get W g

pub record Measuring (P x cap : List ℕ) (s g limit v count amount : ℕ) : Type 0 where
  pub most : amount ≤ limit
  pub each : (r : Route P x cap s g limit) → Midway r.dist r.labelled.hops r.labelled.widths g v count amount

-- the arcs and the smallest ceiling are those of the goal's label
pub record Measured (P x cap : List ℕ) (s g limit count amount : ℕ) : Type 0 where
  pub arcs : (r : Route P x cap s g limit) → count ≡ get r.labelled.hops g
  pub width : (r : Route P x cap s g limit) → amount ≡ get r.labelled.widths g
