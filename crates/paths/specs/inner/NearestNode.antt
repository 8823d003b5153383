-- The node to be settled next: of the least key, so nearest. Assumes nothing.
use Rattle.std.specs.Prelude.{◌≡◌, List, ℕ, ◌+◌, ◌≤◌, ◌<◌}
use Rattle.residual.specs.inner.Network.{get}
use Rattle.residual.specs.inner.Labels.{far}
use Rattle.residual.specs.inner.Keys.{shut, Keyed}

-- k is the key of a node of potential p: where it has a label t and is not settled (its mark d is 0), one of t, else shut
pub record Key (d t p k : ℕ) : Type 0 where
  pub fresh : d ≡ 0 → t < far → Keyed t p k
  pub some : k < shut → (d ≡ 0) × (t < far)

-- r is the nearest node that is not settled (96: none)
pub record Nearest (p T D : List ℕ) (r : ℕ) : Type 0 where
  pub bound : r ≤ 96
  pub fresh : r < 96 → (get D r ≡ 0) × (get T r < far)
  pub least : (v : ℕ) → v < 96 → get D v ≡ 0 → get T v < far → (r < 96) × (get T r + get p v ≤ get T v + get p r)

-- some node from lo up to hi has the key r
abbrev pub Held : List ℕ → ℕ → ℕ → ℕ → Type 0
Held K lo hi r = (v : ℕ) × (lo ≤ v) × (v < hi) × (get K v ≡ r)

-- r is the least key of the nodes from lo up to hi (shut: none is below it)
pub record LeastKey (K : List ℕ) (lo hi r : ℕ) : Type 0 where
  pub bound : r ≤ shut
  pub all : (v : ℕ) → lo ≤ v → v < hi → r ≤ get K v
  pub held : r < shut → Held K lo hi r

-- r has the least key below shut of all sources and terminals (96: none has)
pub record ClosestNode (m n : ℕ) (K : List ℕ) (r : ℕ) : Type 0 where
  pub bound : r ≤ 96
  pub near : r < 96 → get K r < shut
  pub sources : (v : ℕ) → v < m → get K v < shut → (r < 96) × (get K r ≤ get K v)
  pub terminals : (v : ℕ) → 32 ≤ v → v < 32 + n → get K v < shut → (r < 96) × (get K r ≤ get K v)

-- the node to be settled next: the one named, or one of the least key
pub record Chosen (m n : ℕ) (K : List ℕ) (next r : ℕ) : Type 0 where
  pub named : next < 96 → r ≡ next
  pub least : 96 ≤ next → ClosestNode m n K r
