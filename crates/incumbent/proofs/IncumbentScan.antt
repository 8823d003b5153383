-- The scan of a stretch, pass by pass. Assumes nothing.
use mathlib.Core.Path.{◌≡◌, refl, sym, ◌∙◌}
use mathlib.Core.List.{List}
use Prim.Native.Nat.{ℕ, suc, ◌+◌, ◌-◌, ◌*◌, ◌≤◌, ◌<◌}
use native.Mathlib.Nat.{mul-le-mul, mul-le-mul_left}
use native.Mathlib.Numerals.{add-one}
use native.Mathlib.Omega.{arith}
use lib.ListN.{get_or}
use borrow.Author.Tests.{lt-ltb, le-ltb}
use Rattle.incumbent.specs.inner.Scan.{along, better, scanned, ScanReady, LineReady, Scanning}
use Rattle.incumbent.specs.declared.Incumbent.{Incumbent}

-- a smaller total takes the incumbent's place, no other does
pub better_new : (b : Incumbent) (y v e : ℕ) → v + e < b.total → better b y v e ≡ record { split = y; total = v + e; freight = v }
unfolding better
better_new b y v e h = rw (lt-ltb (v + e) b.total h)

pub better_old : (b : Incumbent) (y v e : ℕ) → b.total ≤ v + e → better b y v e ≡ b
unfolding better
better_old b y v e h = rw (le-ltb (v + e) b.total h)

pub scanned_none : (table : List ℕ) (y v gain loss : ℕ) (b : Incumbent) → scanned table y v gain loss b 0 ≡ b
unfolding scanned
scanned_none table y v gain loss b = refl

pub scanned_more : (table : List ℕ) (y v gain loss : ℕ) (b : Incumbent) (k : ℕ) → scanned table y v gain loss b (suc k) ≡
    better (scanned table y v gain loss b k) (y + suc k) (along v gain loss (suc k)) (get_or table (y + suc k) 0)
unfolding scanned
scanned_more table y v gain loss b k = refl

-- the freight on the line is the only number that makes the equation true
pub along_is : (v gain loss t value : ℕ) → value + loss * t ≡ v + gain * t → value ≡ along v gain loss t
unfolding along
along_is v gain loss t value e = omega arith

-- t drums on, the freight and what it is reckoned from are in range
pub record LineRoom (v gain loss t : ℕ) : Type 0 where
  pub gains : gain * t ≤ 4000000000000
  pub losses : loss * t ≤ 4000000000000
  pub value : v + gain * t ≤ 5000000000000
  pub above : loss * t ≤ v + gain * t

pub line_room : {table : List ℕ} {y k v gain loss t : ℕ} → ScanReady table y k v gain loss → t ≤ k → LineRoom v gain loss t
line_room {t = t} r h =
    let few : t ≤ 4000 = omega (arith, r.few) in
    let gains = mul-le-mul {n₂ = 1000000000} {m₂ = 4000} r.rise few in
    record {
      gains = omega (arith, gains);
      losses = omega (arith, mul-le-mul {n₂ = 1000000000} {m₂ = 4000} r.fall few);
      value = omega (arith, r.start, gains);
      above = r.above t h;
    }

-- a part of a stretch, from t drums on, is a line of its own
pub line_ready : {table : List ℕ} {y k v gain loss value : ℕ} (t d : ℕ) → ScanReady table y k v gain loss → t + d ≤ k → value + loss * t ≡ v + gain * t
    → LineReady table (y + t) d value gain loss
line_ready {y = y} t d r h line = record {
  entries = omega (arith, r.entries);
  small = λ i l. let e : y + t + i ≡ y + (t + i) = omega arith in rw e (r.small (t + i) (omega arith));
  room = omega (arith, (line_room {t = t + d} r h).value);
  above = λ i l. omega (arith, r.above (t + i) (omega arith));
}

pub ready_less : {table : List ℕ} {y k k' v gain loss : ℕ} → ScanReady table y k v gain loss → k' ≤ k → ScanReady table y k' v gain loss
ready_less r h = record {
  entries = omega (arith, r.entries);
  small = λ t l. r.small t (omega arith);
  start = r.start;
  rise = r.rise;
  fall = r.fall;
  few = omega (arith, r.few);
  above = λ t l. r.above t (omega arith);
}

pub scan_start : {table : List ℕ} {y v gain loss : ℕ} {b : Incumbent} → Scanning table y v gain loss b 0 v b
scan_start {table} {y} {v} {gain} {loss} {b} = record { line = omega arith; best = sym (scanned_none table y v gain loss b) }

module _
    {table : List ℕ} {y k v gain loss : ℕ} {b : Incumbent} {t value : ℕ} {held : Incumbent} (r : LineReady table y k v gain loss)
    (s : Scanning table y v gain loss b t value held) (h : t < k) where
  pub scan_room : value + gain ≤ 5000000000000
  scan_room = let l : t + 1 ≤ k = omega arith in omega (arith, s.line, r.room, mul-le-mul_left gain l)

  pub scan_fall : loss ≤ value + gain
  scan_fall = omega (arith, s.line, r.above (t + 1) (omega arith))

  pub scan_next : (held' : Incumbent) → held' ≡ better held (y + (t + 1)) (value + gain - loss) (get_or table (y + (t + 1)) 0)
      → Scanning table y v gain loss b (t + 1) (value + gain - loss) held'
  scan_next held' e =
      let line : (value + gain - loss) + loss * (t + 1) ≡ v + gain * (t + 1) = omega (arith, s.line, scan_fall) in
      let value-is : value + gain - loss ≡ along v gain loss (suc t) = along_is v gain loss (suc t) (value + gain - loss) (omega arith) in
      record { line = line; best = e ∙ rw (add-one, s.best, value-is) (sym (scanned_more table y v gain loss b t)) }
