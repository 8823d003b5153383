-- The labels of the nodes, and what one pass over the arcs out of a node makes of them. Assumes nothing.
use Rattle.std.specs.Prelude.{◌≡◌, Bool, true, false, List, ℕ, min, ◌+◌, ◌-◌, ◌^◌, ◌≤◌, ◌<◌, length, set}
use Rattle.transport.specs.Plan.{Table}
use Rattle.residual.specs.inner.Network.{Net, get, Arc}
use Rattle.residual.specs.inner.Bits.{bit}

-- the labels: distance plus potential, the node before, and, only in the proof, the arcs to it and the smallest ceiling on the way
pub record Book : Type 0 where
  pub dist : List ℕ
  pub prev : List ℕ
  pub hops : List ℕ
  pub width : List ℕ

abbrev pub book : List ℕ → List ℕ → List ℕ → List ℕ → Book
book t p h w = record { dist = t; prev = p; hops = h; width = w }

pub record Long (B : Book) : Type 0 where
  pub dists : length B.dist ≡ 96
  pub prevs : length B.prev ≡ 96
  pub hopss : length B.hops ≡ 96
  pub widths : length B.width ≡ 96

-- one offer of the label t and the key f to w: it is left, or taken
pub data Offered (take : Bool) (w t from f : ℕ) (T T' P P' K K' : List ℕ) : Type 0 where
  kept : take ≡ false → T' ≡ T → P' ≡ P → K' ≡ K → Offered take w t from f T T' P P' K K'
  won : take ≡ true → T' ≡ set T w t → P' ≡ set P w from → K' ≡ set K w f → Offered take w t from f T T' P P' K K'

-- what became of the distance and the node before of w in a pass over the arcs out of v
pub data Relabel (N : Net) (v b : ℕ) (T P T' P' : List ℕ) (w : ℕ) : Type 0 where
  keeps : get T' w ≡ get T w → get P' w ≡ get P w → Relabel N v b T P T' P' w
  takes : (t k : ℕ) → Arc N v w b t k → t < get T w → get T' w ≡ t → get P' w ≡ v → Relabel N v b T P T' P' w

-- a pass that has reached the nodes from lo up to hi
pub record Relabelling (N : Net) (v b lo hi : ℕ) (T P T' P' : List ℕ) : Type 0 where
  pub long_dist : length T' ≡ 96
  pub long_prev : length P' ≡ 96
  pub each : (w : ℕ) → Relabel N v b T P T' P' w
  pub rest : (w : ℕ) → hi ≤ w → get T' w ≡ get T w
  pub offers : (w t k : ℕ) → lo ≤ w → w < hi → Arc N v w b t k → get T' w ≤ t

-- a whole pass
pub record Relabelled (N : Net) (v b : ℕ) (T P T' P' : List ℕ) : Type 0 where
  pub long_dist : length T' ≡ 96
  pub long_prev : length P' ≡ 96
  pub each : (w : ℕ) → Relabel N v b T P T' P' w
  pub offers : (w t k : ℕ) → Arc N v w b t k → get T' w ≤ t

-- the same of the whole label: hop arcs lead to it, and the smallest ceiling on the way to v is wide
pub data Touched (N : Net) (v b hop wide : ℕ) (B B' : Book) (w : ℕ) : Type 0 where
  stays : get B'.dist w ≡ get B.dist w → get B'.prev w ≡ get B.prev w → get B'.hops w ≡ get B.hops w
      → get B'.width w ≡ get B.width w → Touched N v b hop wide B B' w
  gains : (t k : ℕ) → Arc N v w b t k → t < get B.dist w → get B'.dist w ≡ t → get B'.prev w ≡ v → get B'.hops w ≡ hop
      → get B'.width w ≡ min wide k → Touched N v b hop wide B B' w

-- a whole pass, over whole labels
pub record Passed (N : Net) (v b hop wide : ℕ) (B B' : Book) : Type 0 where
  pub long : Long B'
  pub each : (w : ℕ) → Touched N v b hop wide B B' w
  pub offers : (w t k : ℕ) → Arc N v w b t k → get B'.dist w ≤ t

-- above every label
abbrev pub far : ℕ
far = 2000000000

-- whether a label t over a lane of x drums and ceiling u is to be taken in place of old
pub record Wins (t old x u : ℕ) (r : Bool) : Type 0 where
  pub taken : r ≡ true → (t < old) × (x < u)
  pub left : r ≡ false → x < u → old ≤ t

-- what a pass over the arcs out of source v asks, of n terminals, unit costs c, ceilings u and the plan x
pub record RowReady (n : ℕ) (c u x : Table) (p : List ℕ) (v b : ℕ) (T P K : List ℕ) : Type 0 where
  pub long_dist : length T ≡ 96
  pub long_prev : length P ≡ 96
  pub long_key : length K ≡ 96
  pub terminals : n ≤ 64
  pub source : v < 32
  pub near : b ≤ 1000000000
  pub costs : (j : ℕ) → j < n → c v j ≤ 2000000
  pub ceilings : (j : ℕ) → j < n → u v j ≤ 4000000000
  pub low : (w : ℕ) → w < 96 → get p w ≤ get T w
  pub most : (w : ℕ) → w < 96 → get T w ≤ far
  pub ahead : (j : ℕ) → j < n → x v j < u v j → get p (32 + j) ≤ b + c v j

-- the same out of terminal v - 32; s has the sources to look at, bit by bit
pub record ColumnReady (c x : Table) (s p : List ℕ) (v b : ℕ) (T P K : List ℕ) : Type 0 where
  pub long_dist : length T ≡ 96
  pub long_prev : length P ≡ 96
  pub long_key : length K ≡ 96
  pub low : 32 ≤ v
  pub high : v < 96
  pub near : b ≤ 1000000000
  pub word : get s (v - 32) < 2 ^ 32
  pub back : (i : ℕ) → bit (get s (v - 32)) i ≡ 1 → 0 < x i (v - 32) → get p i + c i (v - 32) ≤ b

-- what a pass asks, at a source or a terminal
pub record RelaxReady (n : ℕ) (c u x : Table) (s p : List ℕ) (v b : ℕ) (T P K : List ℕ) : Type 0 where
  pub row : v < 32 → RowReady n c u x p v b T P K
  pub column : 32 ≤ v → ColumnReady c x s p v b T P K

abbrev pub Low : List ℕ → List ℕ → Type 0
Low p T = (v : ℕ) → v < 96 → get p v ≤ get T v
