-- The walk that takes a part of the drums back from a path: what it asks, and what it leaves. Assumes nothing.
use Rattle.std.specs.Prelude.{◌≡◌, ◌≢◌, List, ℕ, zero, suc, ◌+◌, ◌-◌, ◌*◌, ◌≤◌, ◌<◌, length}
use Rattle.residual.specs.inner.Network.{get}
use Rattle.augment.specs.inner.PathWalk.{Walked}

-- the arc from w to v is not on the lane of cell k
pub record Off (v w k : ℕ) : Type 0 where
  pub less : v < 32 → v * 64 + (w - 32) ≢ k
  pub more : 32 ≤ v → w * 64 + (v - 32) ≢ k

-- none of the last h arcs to v is on the lane of cell k
unfoldable pub Apart : List ℕ → ℕ → ℕ → ℕ → Type 0
Apart P zero v k = Unit {0}
Apart P (suc h) v k = Off v (get P v) k × Apart P h (get P v) k

-- the arc to v, before which h arcs come: it is on a lane of its own, and a lane that it empties has d drums
pub record Link (P : List ℕ) (d h v : ℕ) (x : List ℕ) : Type 0 where
  pub node : v < 96
  pub less : v < 32 → (32 ≤ get P v) × (get P v < 96) × (d ≤ get x (v * 64 + (get P v - 32))) × (get x (v * 64 + (get P v - 32)) ≤ 4000000000)
  pub more : 32 ≤ v → get P v < 32
  pub apart_less : v < 32 → Apart P h (get P v) (v * 64 + (get P v - 32))
  pub apart_more : 32 ≤ v → Apart P h (get P v) (get P v * 64 + (v - 32))

-- the last h arcs to v are on lanes pairwise apart
unfoldable pub Lanes : List ℕ → ℕ → ℕ → ℕ → List ℕ → Type 0
Lanes P d zero v x = Unit {0}
Lanes P d (suc h) v x = Link P d h v x × Lanes P d h (get P v) x

-- z is what drums left that went over the last h arcs to v, and t of them can be taken back
pub record Undoing (P : List ℕ) (t h v : ℕ) (z : List ℕ) : Type 0 where
  pub plan : List ℕ
  pub drums : ℕ
  pub most : t ≤ drums
  pub long : length plan ≡ 2048
  pub lanes : Lanes P drums h v plan
  pub walked : Walked P drums h v plan z

-- t of them were taken back, and z' is left: as if only the others had gone
pub record Undone (P : List ℕ) (t h v : ℕ) (z z' : List ℕ) : Type 0 where
  pub rest : (u : Undoing P t h v z) → Walked P (u.drums - t) h v u.plan z'

-- the walk stands at v with h arcs left, and z₁ of the amounts z
pub record Underway (P : List ℕ) (t count goal : ℕ) (z : List ℕ) (u : Undoing P t count goal z) (h v : ℕ) (z₁ : List ℕ) : Type 0 where
  pub left : Undoing P t h v z₁
  pub same : left.drums ≡ u.drums
  pub onward : (z' : List ℕ) → Walked P (u.drums - t) h v left.plan z' → Walked P (u.drums - t) count goal u.plan z'
