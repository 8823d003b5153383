-- The keys of the nodes, by which a path search finds the nearest, and what one pass makes of them. Assumes nothing.
use Rattle.std.specs.Prelude.{◌≡◌, Bool, true, ◌≢◌, List, ℕ, ◌+◌, ◌*◌, ◌≤◌, ◌<◌, length}
use Rattle.residual.specs.inner.Network.{Net, get}

-- above every key
abbrev pub shut : ℕ
shut = 4000000000

-- k is a key of a node of label t and potential p: twice what t is above p, and at most one more
abbrev pub Keyed : ℕ → ℕ → ℕ → Type 0
Keyed t p k = (2 * t ≤ k + 2 * p) × (k + 2 * p ≤ 2 * t + 1)

-- a bit for each node
pub record Bits (full : List ℕ) : Type 0 where
  pub long : length full ≡ 96
  pub bit : (v : ℕ) → v < 96 → get full v ≤ 1

-- the nodes as a pass sees them: a key has one more where full says 1
pub record Tags (full want : List ℕ) : Type 0 where
  pub bits : Bits full
  pub long_want : length want ≡ 96

-- the lane from source v to terminal w has room, and carries what want says
pub record Lone (N : Net) (want : List ℕ) (v w : ℕ) : Type 0 where
  pub j : ℕ
  pub source : v < N.m
  pub terminal : j < N.n
  pub node : w ≡ 32 + j
  pub free : N.x v j < N.u v j
  pub all : N.x v j ≡ get want w

-- what became of the key k of a node w of potential p whose label was t, in a pass over the arcs out of v
pub data Rekey (N : Net) (want : List ℕ) (v w p t t' k k' : ℕ) : Type 0 where
  same : t' ≡ t → k' ≡ k → Rekey N want v w p t t' k k'
  new : t' < t → Keyed t' p k' → Rekey N want v w p t t' k k'
  lone : t' < t → k' ≡ shut → Lone N want v w → Rekey N want v w p t t' k k'

-- what a pass makes of the keys K, where it makes T' of the labels T
pub record Rekeyed (N : Net) (want : List ℕ) (v : ℕ) (p T T' K K' : List ℕ) : Type 0 where
  pub long : length K' ≡ 96
  pub each : (w : ℕ) → w < 96 → Rekey N want v w (get p w) (get T w) (get T' w) (get K w) (get K' w)

-- a pass over the nodes below k names one, r, that has a key of at most level, or none (96)
pub record Next (K : List ℕ) (level k r : ℕ) : Type 0 where
  pub bound : r ≤ 96
  pub past : r < 96 → r < k
  pub near : r < 96 → (get K r ≤ level) × (get K r < shut)

-- r is the key of a terminal that a lane of x drums leads to
pub record RowKey (x want t p r : ℕ) : Type 0 where
  pub alone : x ≡ want → r ≡ shut
  pub apart : x ≢ want → Keyed t p r

-- a node i of key d is named in place of next
pub data Named (take : Bool) (d level i next r : ℕ) : Type 0 where
  other : r ≡ next → Named take d level i next r
  this : r ≡ i → take ≡ true → d ≤ level → Named take d level i next r
