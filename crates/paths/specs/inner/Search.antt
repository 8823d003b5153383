-- What a path search keeps and what it finds. Assumes nothing.
use Rattle.std.specs.Prelude.{◌≡◌, Option, None, Some, List, ℕ, min, ◌+◌, ◌*◌, ◌≤◌, ◌<◌, length}
use Rattle.transport.specs.Sum.{sum}
use Rattle.transport.specs.Plan.{col}
use Rattle.transport.specs.inner.Slackness.{Slack}
use Rattle.residual.specs.inner.Network.{Net, get, Arc}
use Rattle.residual.specs.inner.Labels.{Book, book, Long, far, Low}
use Rattle.paths.specs.inner.NearestNode.{Key, Nearest}

-- a slack plan of the size that the engine admits, and potentials of at most 800,000,000
pub record Sound (N : Net) (p : List ℕ) : Type 0 where
  pub sources : N.m ≤ 32
  pub terminals : N.n ≤ 64
  pub costs : (i j : ℕ) → i < N.m → j < N.n → N.c i j ≤ 2000000
  pub slack : Slack N.m N.n N.c N.u N.x (λ i. get p i) (λ j. get p (32 + j))
  pub high : (v : ℕ) → v < 96 → get p v ≤ 800000000

-- no terminal gets more than its demand
abbrev pub Wanted : Net → List ℕ → Type 0
Wanted N demand = (j : ℕ) → j < N.n → col N.m N.x j ≤ get demand (32 + j)

-- how the path to v came there: v is the start, or it came over an arc from a node of S
pub data Prev (N : Net) (s : ℕ) (S : ℕ → Type 0) (B : Book) (v : ℕ) : Type 0 where
  root : v ≡ s → Prev N s S B v
  step : (k : ℕ) → get B.prev v < 96 → S (get B.prev v)
      → Arc N (get B.prev v) v (get B.dist (get B.prev v)) (get B.dist v) k
      → get B.hops v ≡ get B.hops (get B.prev v) + 1
      → get B.width v ≡ min (get B.width (get B.prev v)) k → Prev N s S B v

-- the label of v
pub record Label (N : Net) (s : ℕ) (S : ℕ → Type 0) (p : List ℕ) (cnt limit : ℕ) (B : Book) (v : ℕ) : Type 0 where
  pub source : v < 32 → v < N.m
  pub terminal : 32 ≤ v → v < 32 + N.n
  pub up : get B.dist v ≤ get p s + get B.hops v * 2000000
  pub down : get p s ≤ get B.dist v + get B.hops v * 2000000
  pub count : get B.hops v ≤ cnt
  pub some : 0 < get B.width v
  pub most : get B.width v ≤ limit
  pub prev : Prev N s S B v

-- the search goes on; D marks the settled nodes by 1
pub record Searching (N : Net) (p room : List ℕ) (s limit : ℕ) (B : Book) (D : List ℕ) : Type 0 where
  pub long : Long B
  pub marks : length D ≡ 96
  pub zero_one : (v : ℕ) → v < 96 → get D v ≤ 1
  pub low : Low p B.dist
  pub start : s < 96
  pub root_dist : get B.dist s ≡ get p s
  pub root_hops : get B.hops s ≡ 0
  pub root_width : get B.width s ≡ limit
  pub label : (v : ℕ) → v < 96 → get B.dist v < far → Label N s (λ w. get D w ≡ 1) p (sum 96 (λ w. get D w)) limit B v
  pub settled : (v : ℕ) → v < 96 → get D v ≡ 1 → (get B.dist v < far) × (get room v ≡ 0)
  pub order : (v w : ℕ) → v < 96 → w < 96 → get D v ≡ 1 → get D w ≡ 0 → get B.dist v + get p w ≤ get B.dist w + get p v
  pub relaxed : (v w t k : ℕ) → v < 96 → w < 96 → get D v ≡ 1 → Arc N v w (get B.dist v) t k → get B.dist w ≤ t

-- the same after some passes, each of which has settled a node or more; K has the keys, and next, if not 96, is nearest
pub record Exploring (N : Net) (p room : List ℕ) (s limit : ℕ) (B : Book) (K : List ℕ) (next passes : ℕ) : Type 0 where
  pub marks : List ℕ
  pub searching : Searching N p room s limit B marks
  pub count : passes ≤ sum 96 (λ w. get marks w)
  pub most : (v : ℕ) → v < 96 → get B.dist v ≤ far
  pub hint : next < 96 → Nearest p B.dist marks next
  pub long_key : length K ≡ 96
  pub keys : (v : ℕ) → v < 96 → Key (get marks v) (get B.dist v) (get p v) (get K v)

-- the same of the distances and the nodes before
pub record Labelling (N : Net) (p room : List ℕ) (s limit : ℕ) (T P K : List ℕ) (next passes : ℕ) : Type 0 where
  pub hops : List ℕ
  pub widths : List ℕ
  pub exploring : Exploring N p room s limit (book T P hops widths) K next passes

-- w has a label and is no farther than g
abbrev pub Near : List ℕ → List ℕ → ℕ → ℕ → Type 0
Near p T g w = (get T w < far) × (get T w + get p g ≤ get T g + get p w)

-- a path to g, a node with room
pub record Found (N : Net) (p room : List ℕ) (s limit : ℕ) (B : Book) (g : ℕ) : Type 0 where
  pub goal : get B.dist g < far
  pub has_room : 0 < get room g
  pub label : (v : ℕ) → v < 96 → get B.dist v < far → Label N s (Near p B.dist g) p 96 limit B v
  pub relaxed : (v w t k : ℕ) → v < 96 → w < 96 → get B.dist v + get p g < get B.dist g + get p v → Arc N v w (get B.dist v) t k
      → get B.dist w ≤ t
  pub empty : (v : ℕ) → v < 96 → get B.dist v + get p g < get B.dist g + get p v → get room v ≡ 0

-- no path: the nodes with a label have no room, and no open arc leaves them
pub record Stuck (N : Net) (room : List ℕ) (s : ℕ) (T : List ℕ) : Type 0 where
  pub start : get T s < far
  pub empty : (v : ℕ) → v < 96 → get T v < far → get room v ≡ 0
  pub ahead : (i j : ℕ) → i < N.m → j < N.n → N.x i j < N.u i j → get T i < far → get T (32 + j) < far
  pub back : (i j : ℕ) → i < N.m → j < N.n → 0 < N.x i j → get T (32 + j) < far → get T i < far

-- the answer of the search: the goal, or 96
pub record Searched (N : Net) (p room : List ℕ) (s limit : ℕ) (B : Book) (r : ℕ) : Type 0 where
  pub long : Long B
  pub low : Low p B.dist
  pub root_dist : get B.dist s ≡ get p s
  pub root_hops : get B.hops s ≡ 0
  pub root_width : get B.width s ≡ limit
  pub bound : r ≤ 96
  pub found : r < 96 → Found N p room s limit B r
  pub stuck : r ≡ 96 → Stuck N room s B.dist

-- the same of the distances and the nodes before
pub record Labelled (N : Net) (p room : List ℕ) (s limit : ℕ) (T P : List ℕ) (r : ℕ) : Type 0 where
  pub hops : List ℕ
  pub widths : List ℕ
  pub searched : Searched N p room s limit (book T P hops widths) r

-- the goal's number, 96 where there is none
abbrev pub node_of : Option ℕ → ℕ
node_of (Some g) = g
node_of None = 96

-- the same for any number of drums at s
abbrev pub Answered : Net → List ℕ → List ℕ → ℕ → List ℕ → List ℕ → ℕ → Type 0
Answered N p room s T P r = (limit : ℕ) → 0 < limit → Labelled N p room s limit T P r

-- what a search from source s asks
pub record SearchReady (N : Net) (p : List ℕ) (s : ℕ) : Type 0 where
  pub sound : Sound N p
  pub ceilings : (i j : ℕ) → i < N.m → j < N.n → N.u i j ≤ 4000000000
  pub start : s < N.m

-- no node has a label
pub record Blank (T P : List ℕ) : Type 0 where
  pub long_dist : length T ≡ 96
  pub long_prev : length P ≡ 96
  pub dists : (v : ℕ) → v < 96 → get T v ≡ far
