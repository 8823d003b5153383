-- How a path search tags the nodes: which are full, and what is all that a full terminal gets. Assumes nothing.
use Rattle.std.specs.Prelude.{◌≡◌, List, ℕ, ◌+◌, ◌≤◌, ◌<◌, length}
use Rattle.transport.specs.Plan.{col}
use Rattle.residual.specs.inner.Network.{Net, get}
use Rattle.residual.specs.inner.Keys.{shut, Tags}

-- where want says x, for an x below shut, v is full and x is all that it gets
abbrev pub Whole : ℕ → ℕ → ℕ → Type 0
Whole room demand want = (x : ℕ) → x < shut → x ≡ want → (room ≡ 0) × (0 < x) × (x ≡ demand)

pub record Tagged (room demand full want : List ℕ) : Type 0 where
  pub tags : Tags full want
  pub whole : (v : ℕ) → v < 96 → Whole (get room v) (get demand v) (get want v)

-- the same by the plan: where want says x of a terminal, for an x below shut, the terminal is full and gets no more than x
pub record PlanTagged (N : Net) (room full want : List ℕ) : Type 0 where
  pub tags : Tags full want
  pub whole : (j x : ℕ) → j < N.n → x < shut → x ≡ get want (32 + j) → (get room (32 + j) ≡ 0) × (0 < x) × (col N.m N.x j ≤ x)

-- the nodes below k are tagged
pub record Tagging (room demand full want : List ℕ) (k : ℕ) : Type 0 where
  pub long_full : length full ≡ 96
  pub long_want : length want ≡ 96
  pub bit : (v : ℕ) → v < k → get full v ≤ 1
  pub whole : (v : ℕ) → v < k → Whole (get room v) (get demand v) (get want v)
