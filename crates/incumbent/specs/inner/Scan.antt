-- The incumbent, and what becomes of it on one stretch of the freight curve. Assumes nothing.
use Rattle.std.specs.Prelude.{◌≡◌, cond, List, ℕ, zero, suc, ◌+◌, ◌-◌, ◌*◌, ◌≤◌, ◌<◌, ltb, length, get_or}
use Rattle.incumbent.specs.declared.Incumbent.{Incumbent}

-- the freight t drums further on a straight stretch that starts at v: each drum adds gain and takes off loss
unfoldable pub along : ℕ → ℕ → ℕ → ℕ → ℕ
along v gain loss t = (v + gain * t) - loss * t

-- the incumbent after a look at split y of freight v and table entry e: only a smaller total takes its place
unfoldable pub better : Incumbent → ℕ → ℕ → ℕ → Incumbent
better b y v e = cond (ltb (v + e) b.total) (record { split = y; total = v + e; freight = v }) b

-- the incumbent after a look at each of the splits y + 1 to y + k of a stretch
unfoldable pub scanned : List ℕ → ℕ → ℕ → ℕ → ℕ → Incumbent → ℕ → Incumbent
scanned table y v gain loss b zero = b
scanned table y v gain loss b (suc k) =
    better (scanned table y v gain loss b k) (y + suc k) (along v gain loss (suc k)) (get_or table (y + suc k) 0)

-- the incumbent after a look at k splits of a stretch, those after y + t alone
abbrev pub scanned_part : List ℕ → ℕ → ℕ → ℕ → ℕ → Incumbent → ℕ → ℕ → Incumbent
scanned_part table y v gain loss b t k = scanned table (y + t) (along v gain loss t) gain loss b k

-- what a scan asks: the splits up to y + k have entries, and no freight on the way falls below 0 or grows out of range
pub record ScanReady (table : List ℕ) (y k v gain loss : ℕ) : Type 0 where
  pub entries : y + k < length table
  pub small : (t : ℕ) → t ≤ k → get_or table (y + t) 0 ≤ 1000000000
  pub start : v ≤ 1000000000000
  pub rise : gain ≤ 1000000000
  pub fall : loss ≤ 1000000000
  pub few : k ≤ 4000
  pub above : (t : ℕ) → t ≤ k → loss * t ≤ v + gain * t

-- the same for the k splits after any split y of a stretch, whose freight v has grown on the way there
pub record LineReady (table : List ℕ) (y k v gain loss : ℕ) : Type 0 where
  pub entries : y + k < length table
  pub small : (t : ℕ) → t ≤ k → get_or table (y + t) 0 ≤ 1000000000
  pub room : v + gain * k ≤ 5000000000000
  pub above : (t : ℕ) → t ≤ k → loss * t ≤ v + gain * t

-- the scan has looked at the splits up to y + t
pub record Scanning (table : List ℕ) (y v gain loss : ℕ) (b : Incumbent) (t value : ℕ) (held : Incumbent) : Type 0 where
  pub line : value + loss * t ≡ v + gain * t
  pub best : held ≡ scanned table y v gain loss b t
