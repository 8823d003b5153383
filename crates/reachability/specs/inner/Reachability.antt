-- A way over free lanes, which cost nothing: the nodes that a way leads to from a source, by bit masks. Source i is node i, terminal j is
-- node 32 + j. Assumes nothing.
use Rattle.std.specs.Prelude.{◌≡◌, Bool, true, false, cond, ◌≢◌, List, [], ℕ, ◌+◌, ◌-◌, ◌^◌, ◌≤◌, ◌<◌, ltb, length, set, replicate}
use Rattle.std.specs.Int.Bits.{bit_and}
use Rattle.transport.specs.Sum.{sum}
use Rattle.residual.specs.inner.Cells.{cells}
use Rattle.residual.specs.inner.Network.{Net, net, get}
use Rattle.residual.specs.inner.Labels.{Book, book, Long, far}
use Rattle.residual.specs.inner.Bits.{bit}
use Rattle.paths.specs.inner.Search.{Label, Labelled}

-- bit j of entry i is set for each lane (i, j) that is free, and may be for one that was
pub record Opens (m n : ℕ) (f o : List ℕ) : Type 0 where
  pub long : length o ≡ 32
  pub within : (i : ℕ) → i < m → get o i < 2 ^ n
  pub has : (i j : ℕ) → i < m → j < n → 0 < cells f i j → bit (get o i) j ≡ 1

-- bit j of t is set for each terminal j that gets drums from a source other than e, and may be for one that got some
pub record Supplied (m n e : ℕ) (x : List ℕ) (t : ℕ) : Type 0 where
  pub fits : t < 2 ^ 64
  pub has : (i j : ℕ) → i < m → j < n → i ≢ e → 0 < cells x i j → bit t j ≡ 1

-- and for terminal g
pub record Known (m n e g : ℕ) (x : List ℕ) (t : ℕ) : Type 0 where
  pub supplied : Supplied m n e x t
  pub goal : bit t g ≡ 1

-- ---- the nodes reached

-- every potential
abbrev pub level : List ℕ
level = replicate 96 800000000

unfoldable pub reached : ℕ → ℕ
reached t = cond (ltb t far) 1 0

-- the nodes with a label are reached from s, each by the node before
pub record Tree (N : Net) (s limit : ℕ) (B : Book) : Type 0 where
  pub long : Long B
  pub root_dist : get B.dist s ≡ 800000000
  pub root_hops : get B.hops s ≡ 0
  pub root_width : get B.width s ≡ limit
  pub flat : (v : ℕ) → v < 96 → get B.dist v < far → get B.dist v ≡ 800000000
  pub label : (v : ℕ) → v < 96 → get B.dist v < far
      → Label N s (λ w. get B.dist w < far) level (sum 96 (λ w. reached (get B.dist w))) limit B v

-- of the terminals t the terminals R, and the sources S are not reached yet, the sources W are, and are to be looked at; P has the nodes before
pub record Reaching (m n : ℕ) (f x : List ℕ) (s limit t R S W : ℕ) (P : List ℕ) : Type 0 where
  pub dist : List ℕ
  pub hops : List ℕ
  pub widths : List ℕ
  pub tree : Tree (net m n [] f x) s limit (book dist P hops widths)
  pub fits_r : R < 2 ^ 64
  pub fits_s : S < 2 ^ 32
  pub fits_w : W < 2 ^ 32
  pub fresh_s : (a : ℕ) → a < 32 → bit S a ≡ 1 → far ≤ get dist a
  pub seen_s : (a : ℕ) → a < 32 → bit S a ≡ 0 → get dist a < far
  pub fresh_t : (b : ℕ) → b < 64 → bit R b ≡ 1 → far ≤ get dist (32 + b)
  pub others : (b : ℕ) → b < 64 → bit t b ≡ 0 → (bit R b ≡ 0) × (far ≤ get dist (32 + b))
  pub waits : (a : ℕ) → a < 32 → bit W a ≡ 1 → bit S a ≡ 0

-- and terminal j is reached
pub record AtTerminal (m n : ℕ) (f x : List ℕ) (s limit t R S W : ℕ) (P : List ℕ) (j : ℕ) : Type 0 where
  pub reaching : Reaching m n f x s limit t R S W P
  pub here : get reaching.dist (32 + j) < far

-- terminal g is not reached yet, and no source that is has room to send to it
pub record Aiming (m n g : ℕ) (f x : List ℕ) (R S : ℕ) : Type 0 where
  pub terminal : g < n
  pub fresh : bit R g ≡ 1
  pub full : (a : ℕ) → a < m → bit S a ≡ 0 → cells f a g ≤ cells x a g

-- whether source i has room to send to terminal j
pub record Room (i j : ℕ) (f x : List ℕ) (r : Bool) : Type 0 where
  pub room : r ≡ true → cells x i j < cells f i j
  pub full : r ≡ false → cells f i j ≤ cells x i j

-- whether none of the sources S serves terminal j
pub record Seen (S j : ℕ) (s : List ℕ) (r : Bool) : Type 0 where
  pub none : r ≡ true → (i : ℕ) → bit S i ≡ 1 → bit (get s j) i ≡ 0

-- whether no source but e serves terminal j
pub record Unserved (e j : ℕ) (s : List ℕ) (r : Bool) : Type 0 where
  pub none : r ≡ true → (i : ℕ) → i < 32 → i ≢ e → bit (get s j) i ≡ 0

-- source i is taken from those of terminal j
pub record Dropped (i j : ℕ) (s s' : List ℕ) : Type 0 where
  pub same : s' ≡ set s j (bit_and (get s j) (2 ^ 32 - 1 - 2 ^ i))

-- the size, a source and a terminal, or two sources
pub record ReachAt (m n i j : ℕ) : Type 0 where
  pub sources : m ≤ 32
  pub terminals : n ≤ 64
  pub source : i < m
  pub terminal : j < n

pub record AheadAt (m n s i : ℕ) : Type 0 where
  pub sources : m ≤ 32
  pub terminals : n ≤ 64
  pub start : s < m
  pub source : i < m

-- sources were reached, and wait
pub record Moved (S W S' W' : ℕ) : Type 0 where
  pub kept : (a : ℕ) → bit S a ≡ 0 → bit S' a ≡ 0
  pub new : (a : ℕ) → bit S' a ≡ 0 → bit W' a ≡ 0 → (bit S a ≡ 0) × (bit W a ≡ 0)
  pub fewer : S' + W' ≤ S + W

-- each source that sends to terminal j is reached
pub record Back (m j : ℕ) (x : List ℕ) (R S W R' S' W' : ℕ) : Type 0 where
  pub same : R' ≡ R
  pub moved : Moved S W S' W'
  pub closed : (a : ℕ) → a < m → 0 < cells x a j → bit S' a ≡ 0

-- no open arc leaves the nodes reached, but from the sources that wait, and from source e
pub record Shut (m n e : ℕ) (f x : List ℕ) (R S W : ℕ) : Type 0 where
  pub ahead : (a b : ℕ) → a < m → b < n → a ≢ e → cells x a b < cells f a b → bit S a ≡ 0 → bit W a ≡ 0 → bit R b ≡ 0
  pub back : (a b : ℕ) → a < m → b < n → 0 < cells x a b → bit R b ≡ 0 → bit S a ≡ 0

-- ---- the answer

-- a way leads from source i to terminal j
pub record Trodden (m n i j limit : ℕ) (f x P : List ℕ) : Type 0 where
  pub dist : List ℕ
  pub labelled : Labelled (net m n [] f x) level (replicate 96 1) i limit dist P (32 + j)

-- none does: p is 0 for the sources of a set that no open arc leaves, q for its terminals, both are 1 for the others
pub record NoRoute (m n i j : ℕ) (f x : List ℕ) : Type 0 where
  pub p : ℕ → ℕ
  pub q : ℕ → ℕ
  pub start : p i ≡ 0
  pub goal : q j ≡ 1
  pub most : (b : ℕ) → q b ≤ 1
  pub ahead : (a b : ℕ) → a < m → b < n → cells x a b < cells f a b → q b ≤ p a
  pub back : (a b : ℕ) → a < m → b < n → 0 < cells x a b → p a ≤ q b

-- a way by terminals of t
pub record Through (m n i j limit : ℕ) (f x P : List ℕ) (t : ℕ) : Type 0 where
  pub trodden : Trodden m n i j limit f x P
  pub within : (b : ℕ) → b < 64 → get trodden.dist (32 + b) < far → bit t b ≡ 1

-- after a look from terminal j: terminal g is reached, or each source that sends to j is
pub record LookedBack (m n j s g limit : ℕ) (f x : List ℕ) (t R S W t' R' S' W' : ℕ) (P : List ℕ) (r : Bool) : Type 0 where
  pub same : t' ≡ t
  pub found : r ≡ true → Through m n s g limit f x P t'
  pub reaching : r ≡ false → Reaching m n f x s limit t' R' S' W' P
  pub aiming : r ≡ false → Aiming m n g f x R' S'
  pub back : r ≡ false → Back m j x R S W R' S' W'

-- after a look from a source: terminal g is reached, or no open arc leaves the nodes reached but from the sources that wait
pub record LookedAhead (m n s g limit : ℕ) (f x : List ℕ) (S W t' R' S' W' : ℕ) (P : List ℕ) (r : Bool) : Type 0 where
  pub known : Known m n s g x t'
  pub found : r ≡ true → Through m n s g limit f x P t'
  pub reaching : r ≡ false → Reaching m n f x s limit t' R' S' W' P
  pub aiming : r ≡ false → Aiming m n g f x R' S'
  pub shut : r ≡ false → Shut m n 32 f x R' S' W'
  pub fewer : r ≡ false → S' + W' ≤ S + W

pub record ReachDone (m n i j limit : ℕ) (f x P : List ℕ) (t : ℕ) (r : Bool) : Type 0 where
  pub found : r ≡ true → Through m n i j limit f x P t
  pub none : r ≡ false → NoRoute m n i j f x
