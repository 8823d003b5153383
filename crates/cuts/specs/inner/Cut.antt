-- The cut: what its functions ask and leave. A part of the nodes has a bit for each source and a bit for each terminal. Assumes nothing.
use Rattle.std.specs.Prelude.{◌≡◌, Bool, true, false, List, ℕ, zero, suc, min, ◌+◌, ◌-◌, ◌*◌, ◌^◌, ◌≤◌, ◌<◌, length}
use Rattle.transport.specs.Plan.{Table}
use Rattle.residual.specs.inner.Cells.{cells}
use Rattle.residual.specs.inner.Network.{net, get}
use Rattle.residual.specs.inner.Bits.{bit}
use Rattle.residual.specs.inner.LanesInUse.{Covers}
use Rattle.paths.specs.inner.Search.{Sound}
use Rattle.cuts.specs.inner.Columns.{by_terminal}

-- 1 where node k is in the part, else 0
abbrev pub has : ℕ → ℕ → ℕ
has part k = bit part k

-- what a node of the part changes by
unfoldable pub share : ℕ → ℕ → ℕ
share d zero = 0
share d (suc b) = d

-- r has the bits below n that are not in the part
pub record Others (n part r : ℕ) : Type 0 where
  pub out : (k : ℕ) → k < n → has part k ≡ 0 → bit r k ≡ 1
  pub only : (k : ℕ) → has part k ≡ 1 → bit r k ≡ 0
  pub within : r < 2 ^ n

pub record ChangeReady (part first up down : ℕ) (p : List ℕ) : Type 0 where
  pub within : (k : ℕ) → has part k ≡ 1 → first + k < 96
  pub long : length p ≡ 96
  pub top : (v : ℕ) → v < 96 → get p v + up ≤ 4000000000
  pub low : (k : ℕ) → has part k ≡ 1 → down ≤ get p (first + k)

-- the nodes of the part have risen by up and fallen by down, but for those that are left
pub record Changed (part first up down : ℕ) (p : List ℕ) (left : ℕ) (p' : List ℕ) : Type 0 where
  pub long : length p' ≡ 96
  pub own : (k : ℕ) → bit left k ≤ has part k
  pub each : (k : ℕ) → get p' (first + k) + share down (has part k - bit left k) ≡ get p (first + k) + share up (has part k - bit left k)
  pub below : (v : ℕ) → v < first → get p' v ≡ get p v

-- no source of rows is noted to serve a terminal outside cols
pub record Shut (n rows cols : ℕ) (serves : List ℕ) : Type 0 where
  pub each : (i j : ℕ) → j < n → has cols j ≡ 0 → bit (get serves j) i ≡ 1 → has rows i ≡ 0

-- out has each source that is noted to serve a terminal outside cols, but for the terminals that are left
pub record Gathered (n cols : ℕ) (serves : List ℕ) (left out : ℕ) : Type 0 where
  pub each : (i j : ℕ) → j < n → has cols j ≡ 0 → bit left j ≡ 0 → bit (get serves j) i ≡ 1 → bit out i ≡ 1

pub record FoldReady (k base : ℕ) (table acc : List ℕ) : Type 0 where
  pub within : k + 32 ≤ 2048
  pub base_most : base ≤ 800000000
  pub costs : (i : ℕ) → i < 32 → get table (k + i) ≤ 200000000
  pub long : length acc ≡ 32
  pub most : (i : ℕ) → get acc i ≤ 1000000000

-- the cells from k on have been looked at, in the places below c
pub record Folded (k base : ℕ) (table acc : List ℕ) (c : ℕ) (acc' : List ℕ) : Type 0 where
  pub long : length acc' ≡ 32
  pub low : (i : ℕ) → i < c → get acc' i ≤ get table (k + i) + base
  pub less : (i : ℕ) → get acc' i ≤ get acc i

-- tables, by source and by terminal, and potentials of the size that the engine admits
pub record CutReady (m n : ℕ) (table columns p : List ℕ) : Type 0 where
  pub sources : m ≤ 32
  pub terminals : n ≤ 64
  pub costs : (i j : ℕ) → i < m → j < n → cells table i j ≤ 200000000
  pub columns_most : (v : ℕ) → get columns v ≤ 200000000
  pub high : (v : ℕ) → v < 96 → get p v ≤ 800000000
  pub long : length p ≡ 96

pub record WeightsReady (p : List ℕ) : Type 0 where
  pub high : (v : ℕ) → v < 96 → get p v ≤ 800000000
  pub long : length p ≡ 96

-- w has the weights of the nodes below k
pub record Weighed (p : List ℕ) (k : ℕ) (w : List ℕ) : Type 0 where
  pub long : length w ≡ 96
  pub source : (v : ℕ) → v < 32 → get w v ≡ get p v
  pub terminal : (v : ℕ) → 32 ≤ v → v < k → get w v + get p v ≡ 800000000

pub record LowsReady (part at stride first : ℕ) (table w : List ℕ) : Type 0 where
  pub within : (b : ℕ) → has part b ≡ 1 → b * stride + first + 32 ≤ 2048
  pub nodes : (b : ℕ) → has part b ≡ 1 → at + b < 96
  pub costs : (b i : ℕ) → has part b ≡ 1 → i < 32 → get table (b * stride + first + i) ≤ 200000000
  pub most : (v : ℕ) → v < 96 → get w v ≤ 800000000

-- acc is at most cell and weight of each node of the part, but for those that are left
pub record Lows (part at stride first : ℕ) (table w : List ℕ) (left : ℕ) (acc : List ℕ) : Type 0 where
  pub long : length acc ≡ 32
  pub most : (i : ℕ) → get acc i ≤ 1000000000
  pub own : (b : ℕ) → bit left b ≤ has part b
  pub low : (b i : ℕ) → has part b ≡ 1 → bit left b ≡ 0 → i < 32 → get acc i ≤ get table (b * stride + first + i) + get w (at + b)

pub record LeastReady (part at : ℕ) (low w : List ℕ) : Type 0 where
  pub few : part < 2 ^ 32
  pub nodes : at + 32 ≤ 96
  pub most : (i : ℕ) → get low i ≤ 1000000000
  pub weights : (v : ℕ) → v < 96 → get w v ≤ 800000000

-- r is the key, where node b is in the part
pub record Counted (part b key r : ℕ) : Type 0 where
  pub inside : has part b ≡ 1 → r ≤ key
  pub most : r ≤ 2000000000

-- key is at most what low has and weight for each node of the part below k
pub record LowTo (part at : ℕ) (low w : List ℕ) (k key : ℕ) : Type 0 where
  pub most : key ≤ 2000000000
  pub each : (b : ℕ) → b < k → has part b ≡ 1 → key ≤ get low b + get w (at + b)

-- key is at most the key before, and what low has and weight for each node of the part
pub record Low (part at : ℕ) (low w : List ℕ) (from key : ℕ) : Type 0 where
  pub less : key ≤ from
  pub each : (b : ℕ) → has part b ≡ 1 → key ≤ get low b + get w (at + b)

pub record SourcesReady (out n : ℕ) (cost w : List ℕ) : Type 0 where
  pub few : out < 2 ^ 32
  pub costs : (i j : ℕ) → has out i ≡ 1 → j < n → cells cost i j ≤ 200000000
  pub most : (v : ℕ) → v < 96 → get w v ≤ 800000000

pub record TerminalsReady (out : ℕ) (columns w : List ℕ) : Type 0 where
  pub few : out < 2 ^ 32
  pub costs : (v : ℕ) → get columns v ≤ 200000000
  pub most : (v : ℕ) → v < 96 → get w v ≤ 800000000

-- key is at most unit cost and weights of each lane from a source of out to a terminal of cols
pub record Nearest (out cols : ℕ) (c : Table) (w : List ℕ) (key : ℕ) : Type 0 where
  pub each : (i j : ℕ) → i < 32 → j < 64 → has out i ≡ 1 → has cols j ≡ 1 → key ≤ c i j + get w i + get w (32 + j)

pub record NearReady (m n : ℕ) (table columns w : List ℕ) : Type 0 where
  pub sources : m ≤ 32
  pub terminals : n ≤ 64
  pub costs : (i j : ℕ) → i < m → j < n → cells table i j ≤ 200000000
  pub columns_most : (v : ℕ) → get columns v ≤ 200000000
  pub most : (v : ℕ) → v < 96 → get w v ≤ 800000000

-- key is at most weights and what neither table is above, for each lane into the part
pub record Near (m n rows cols : ℕ) (table columns w : List ℕ) (key : ℕ) : Type 0 where
  pub each : (i j c : ℕ) → i < m → j < n → has rows i ≡ 0 → has cols j ≡ 1 → cells table i j ≤ c → by_terminal columns i j ≤ c
      → key ≤ c + get w i + get w (32 + j)

-- no potential of a node below k is above most
pub record Top (p : List ℕ) (k most : ℕ) : Type 0 where
  pub each : (v : ℕ) → v < k → get p v ≤ most

-- no potential of a node below k is below least
pub record Bottom (p : List ℕ) (k least : ℕ) : Type 0 where
  pub each : (v : ℕ) → v < k → least ≤ get p v

pub record LiftReady (m n : ℕ) (p : List ℕ) : Type 0 where
  pub sources : m ≤ 32
  pub terminals : n ≤ 64
  pub high : (v : ℕ) → v < 96 → get p v ≤ 800000000
  pub long : length p ≡ 96

-- of the sources below m and the terminals below n the part has risen by d, and all of them have fallen by e; no potential came below 416,000,000
pub record Rose (m n rows cols d e : ℕ) (p p' : List ℕ) : Type 0 where
  pub long : length p' ≡ 96
  pub source : (i : ℕ) → i < m → get p' i + e ≡ get p i + share d (has rows i)
  pub terminal : (j : ℕ) → j < n → get p' (32 + j) + e ≡ get p (32 + j) + share d (has cols j)
  pub floor : (v : ℕ) → v < 96 → min (get p v) 416000000 ≤ get p' v
  pub high : (v : ℕ) → v < 96 → get p' v ≤ 800000000

-- the part stands higher by d against the rest, or nothing has changed
pub record Lifted (m n rows cols d : ℕ) (p p' : List ℕ) (r : Bool) : Type 0 where
  pub rose : r ≡ true → (e : ℕ) × Rose m n rows cols d e p p'
  pub same : r ≡ false → p' ≡ p

-- the smaller of two keys, where an amount is not 0; else the second
pub record Nearer (amount key far r : ℕ) : Type 0 where
  pub less : r ≤ far
  pub some : 0 < amount → r ≤ key

-- what is asked of the lanes to terminal j from the sources of a part
pub record OutReady (j from : ℕ) (cost p : List ℕ) : Type 0 where
  pub terminal : j < 64
  pub few : from < 2 ^ 32
  pub costs : (i : ℕ) → has from i ≡ 1 → cells cost i j ≤ 2000000
  pub high : (v : ℕ) → v < 96 → get p v ≤ 800000000

-- key is at most the key before, and for each lane in use what the terminal's potential is above, 1,000,000,000 more, but for the sources that are left
pub record OutTo (j from : ℕ) (cost x p : List ℕ) (before left key : ℕ) : Type 0 where
  pub less : key ≤ before
  pub own : (i : ℕ) → bit left i ≤ has from i
  pub each : (i : ℕ) → has from i ≡ 1 → bit left i ≡ 0 → 0 < cells x i j → key + (cells cost i j + get p i) ≤ 1000000000 + get p (32 + j)

pub record ExitReady (m n : ℕ) (cost p : List ℕ) : Type 0 where
  pub sources : m ≤ 32
  pub terminals : n ≤ 64
  pub costs : (i j : ℕ) → i < m → j < n → cells cost i j ≤ 2000000
  pub high : (v : ℕ) → v < 96 → get p v ≤ 800000000

-- the same of all lanes in use from the sources inside to terminals outside cols, but for the terminals that are left
pub record ExitTo (n inside cols : ℕ) (cost x serves p : List ℕ) (left key : ℕ) : Type 0 where
  pub each : (i j : ℕ) → has inside i ≡ 1 → j < n → has cols j ≡ 0 → bit left j ≡ 0 → bit (get serves j) i ≡ 1 → 0 < cells x i j
      → key + (cells cost i j + get p i) ≤ 1000000000 + get p (32 + j)

-- the same of all lanes in use out of the part that serves has noted
pub record Exit (m n rows cols : ℕ) (cost x serves p : List ℕ) (key : ℕ) : Type 0 where
  pub each : (i j : ℕ) → i < m → j < n → has rows i ≡ 1 → has cols j ≡ 0 → bit (get serves j) i ≡ 1 → 0 < cells x i j
      → key + (cells cost i j + get p i) ≤ 1000000000 + get p (32 + j)

-- unit costs of the size that the engine admits
pub record Priced (m n : ℕ) (cost : List ℕ) : Type 0 where
  pub costs : (i j : ℕ) → i < m → j < n → cells cost i j ≤ 2000000

-- where a lane has room neither table has more than its unit cost
pub record Ahead (m n : ℕ) (cost cap x table columns : List ℕ) : Type 0 where
  pub by_source : (i j : ℕ) → i < m → j < n → cells x i j < cells cap i j → cells table i j ≤ cells cost i j
  pub by_terminal_lem : (i j : ℕ) → i < m → j < n → cells x i j < cells cap i j → by_terminal columns i j ≤ cells cost i j

-- the potentials p' in place of p: none came below 416,000,000, and where x was slack, its lanes are noted in serves and those with room have no more
-- than their unit costs in the tables, it still is
pub record Shifted (m n : ℕ) (cost table columns x serves p p' : List ℕ) : Type 0 where
  pub long : length p' ≡ 96
  pub floor : (v : ℕ) → v < 96 → min (get p v) 416000000 ≤ get p' v
  pub high : (v : ℕ) → v < 96 → get p' v ≤ 800000000
  pub sound : (cap : List ℕ) → Ahead m n cost cap x table columns → Covers m n x serves → Sound (net m n cost cap x) p → Sound (net m n cost cap x) p'
