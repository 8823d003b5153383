-- The words that tell which sources serve a terminal follow a walk. Assumes nothing.
use mathlib.Core.Path.{◌≡◌, refl, ap, ◌∙◌}
use mathlib.Core.Logic.{◌≢◌}
use mathlib.Core.List.{List, [], ◌∷◌}
use Prim.Native.Nat.{ℕ, zero, suc, max, ◌+◌, ◌-◌, ◌*◌, ◌^◌, ◌≤◌, ◌<◌}
use native.Mathlib.Decide.{ℕ_discrete, dec_lt}
use native.Mathlib.Omega.{arith}
use lib.ListN.{length, set, length-set}
use lib.Seq.{get_or-set_same, get_or-set_other}
use lib.Pow.{pow_pos, pow-lt}
use lib.Bits.{bit_or, or_lt}
use Rattle.residual.specs.inner.Cells.{cells}
use Rattle.residual.specs.inner.Network.{get}
use Rattle.residual.specs.inner.Bits.{bit}
use Rattle.residual.specs.inner.LanesInUse.{Covers}
use Rattle.augment.specs.inner.LaneMarks.{Trail, Served, Marks}
use Rattle.augment.specs.inner.PathWalk.{Carried, Walked}
use Rattle.residual.proofs.Bits.{bit_most, bit_or_lem, bit_own}

-- ---- a walk

pub set_less : (l : List ℕ) (k q a : ℕ) → a ≤ get l k → get (set l k a) q ≤ get l q
set_less [] k q a h = omega arith
set_less (y ∷ l) zero zero a h = h
set_less (y ∷ l) zero (suc q) a h = omega arith
set_less (y ∷ l) (suc k) zero a h = omega arith
set_less (y ∷ l) (suc k) (suc q) a h = set_less l k q a h

module _ {m n : ℕ} (terminals : n ≤ 64) where
  -- drums come off a lane
  cover_less : {x s : List ℕ} (k d : ℕ) → Covers m n x s → Covers m n (set x k (get x k - d)) s
  cover_less {x} k d c = record {
    long = c.long;
    within = c.within;
    serving = λ i j a b o. c.serving i j a b (omega (arith, set_less x k (i * 64 + j) (get x k - d) (omega arith)));
  }

  -- drums come on the lane from w to terminal l
  module _ {x s : List ℕ} (w l d : ℕ) (hw : w < m) (hl : l < 64) (c : Covers m n x s) where
    s' : List ℕ
    s' = set s l (bit_or (get s l) (2 ^ w))

    here : get s' l ≡ bit_or (get s l) (2 ^ w)
    unfolding s'
    here = get_or-set_same s l (bit_or (get s l) (2 ^ w)) 0 (omega (arith, c.long))

    bits : (i : ℕ) → bit (get s' l) i ≡ max (bit (get s l) i) (bit (2 ^ w) i)
    bits i = ap (λ r. bit r i) here ∙ bit_or_lem (get s l) (2 ^ w) i

    off : (j : ℕ) → j ≢ l → get s' j ≡ get s j
    unfolding s'
    off j z = get_or-set_other s l j (bit_or (get s l) (2 ^ w)) 0 z

    within : (j : ℕ) → j < n → Dec (j ≡ l) → get s' j < 2 ^ m
    within j b (no z) = omega (arith, off j z, c.within j b)
    within j b (yes z) = rw (z, here) (or_lt m (get s l) (2 ^ w) (c.within l (omega arith)) (pow-lt hw))

    kept : (i j : ℕ) → bit (get s j) i ≡ 1 → Dec (j ≡ l) → bit (get s' j) i ≡ 1
    kept i j o (no z) = ap (λ r. bit r i) (off j z) ∙ o
    kept i j o (yes z) =
        omega (arith, bits i, bit_most (2 ^ w) i, ap (λ j. bit (get s' j) i) z, ap (λ j. bit (get s j) i) z)

    elsewhere : (i j : ℕ) → i < m → j < n → 0 < cells (set x (w * 64 + l) (get x (w * 64 + l) + d)) i j → i * 64 + j ≢ w * 64 + l
        → bit (get s' j) i ≡ 1
    elsewhere i j a b o z =
        let e = get_or-set_other x (w * 64 + l) (i * 64 + j) (get x (w * 64 + l) + d) 0 z in
        kept i j (c.serving i j a b (omega (arith, e))) (ℕ_discrete j l)

    serving : (i j : ℕ) → i < m → j < n → 0 < cells (set x (w * 64 + l) (get x (w * 64 + l) + d)) i j → Dec (i ≡ w) → Dec (j ≡ l)
        → bit (get s' j) i ≡ 1
    serving i j a b o (yes y) (yes z) = rw (y, z) (omega (arith, bits w, bit_own w, bit_most (get s l) w))
    serving i j a b o (no y) z = elsewhere i j a b o (omega arith)
    serving i j a b o (yes y) (no z) = elsewhere i j a b o (omega arith)

    cover_more : Covers m n (set x (w * 64 + l) (get x (w * 64 + l) + d)) (set s l (bit_or (get s l) (2 ^ w)))
    unfolding s'
    cover_more = record {
      long = length-set s l (bit_or (get s l) (2 ^ w)) ∙ c.long;
      within = λ j b. within j b (ℕ_discrete j l);
      serving = λ i j a b o. serving i j a b o (ℕ_discrete i w) (ℕ_discrete j l);
    }

  pub cover_arc : {v w d : ℕ} {x y s t : List ℕ} → v < 96 → (32 ≤ v → w < m) → Covers m n x s → Carried v w d x y → Served v w s t → Covers m n y t
  cover_arc {v} {w} {d} hv hw c k l = elim (dec_lt v 32) [
    | yes h ↦ rw (k.less h, l.less h) (cover_less (v * 64 + (w - 32)) d c)
    | no h ↦
        let high : 32 ≤ v = omega arith in rw (k.more high, l.more high) (cover_more w (v - 32) d (hw high) (omega arith) c)
  ]

  pub cover_walk : (P : List ℕ) (d h v : ℕ) {x s : List ℕ} (x' s' : List ℕ) → Trail m P h v → Covers m n x s → Walked P d h v x x' → Marks P h v s s'
      → Covers m n x' s'
  unfolding Trail Walked Marks
  cover_walk P d zero v x' s' t c w k = rw (w, k) c
  cover_walk P d (suc h) v x' s' t c w k =
      cover_walk P d h (get P v) x' s' t.3 (cover_arc t.0 t.2 c w.1 k.1) w.2 k.2

-- nothing is served yet
pub cover_none : {m n : ℕ} {x s : List ℕ} → length s ≡ 64 → ((i j : ℕ) → i < m → j < n → cells x i j ≡ 0) → ((j : ℕ) → j < 64 → get s j ≡ 0) → n ≤ 64
    → Covers m n x s
cover_none {m} e z f h = record {
  long = e;
  within = λ j b. omega (arith, f j (omega arith), pow_pos m);
  serving = λ i j a b o. absurd (omega (arith, z i j a b));
}

-- ---- one pass of the loop over a path

pub trail_wide : {m m' : ℕ} (P : List ℕ) → m ≤ m' → (h v : ℕ) → Trail m P h v → Trail m' P h v
unfolding Trail
trail_wide P l zero v t = tt
trail_wide P l (suc h) v t = (t.0, t.1, λ o. omega (arith, t.2 o), trail_wide P l h (get P v) t.3)

module _ (P : List ℕ) (v : ℕ) where
  pub trail_node : (m h : ℕ) → 0 < h → Trail m P h v → (v < 96) × (get P v < 96) × (32 ≤ v → get P v < m)
  unfolding Trail
  trail_node m zero l t = absurd (omega arith)
  trail_node m (suc h) l t = (t.0, t.1, t.2)

  pub trail_next : (m h : ℕ) → 0 < h → Trail m P h v → Trail m P (h - 1) (get P v)
  unfolding Trail
  trail_next m zero l t = absurd (omega arith)
  trail_next m (suc h) l t = let e : suc h - 1 ≡ h = omega arith in rw e t.3

  pub marks_back : (h : ℕ) → 0 < h → {s t : List ℕ} (z : List ℕ) → Served v (get P v) s t → Marks P (h - 1) (get P v) t z → Marks P h v s z
  unfolding Marks
  marks_back zero l z o k = absurd (omega arith)
  marks_back (suc h) l {t = t} z o k = let e : suc h - 1 ≡ h = omega arith in (t, o, rw e at k)

  pub marks_none : (h : ℕ) → h ≤ 0 → (s : List ℕ) → Marks P h v s s
  unfolding Marks
  marks_none zero l s = refl
  marks_none (suc h) l s = absurd (omega arith)
