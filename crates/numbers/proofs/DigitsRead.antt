-- A number read digit by digit. Assumes nothing.
use mathlib.Core.Path.{◌≡◌, refl, sym, ap, ◌∙◌}
use mathlib.Core.List.{List, ◌∷◌}
use Prim.Native.Nat.{ℕ, zero, suc, ◌+◌, ◌*◌, ◌-◌, ◌≤◌, ◌<◌, ◌^◌}
use native.Mathlib.Nat.{pow-suc}
use native.Mathlib.Omega.{arith}
use native.Mathlib.Numerals.{add-one}
use lib.ListN.{length, get_or, drop}
use lib.Seq.{drop-cons, drop-length}
use borrow.Author.Tests.{lt-ltb, le-ltb, eq-eqb, ne_eqb}
use Rattle.std.specs.Prelude.{Option, None, Some}
use Rattle.numbers.specs.Short.{number_from, short_of}

-- k digits are read, and they are v
pub record Reading (text : List ℕ) (v k : ℕ) : Type 0 where
  pub so_far : number_from 0 text ≡ number_from v (drop k text)
  pub small : v < 10 ^ k
  pub upto : k ≤ length text

pub reading_start : (text : List ℕ) → Reading text 0 0
reading_start text = record { so_far = refl; small = omega arith; upto = omega arith }

-- fewer than four digits are a number below 1,000
pub below_1000 : (v k : ℕ) → k < 4 → v < 10 ^ k → v < 1000
below_1000 v zero h s = omega arith
below_1000 v (suc zero) h s = omega arith
below_1000 v (suc (suc zero)) h s = omega arith
below_1000 v (suc (suc (suc zero))) h s = omega arith
below_1000 v (suc (suc (suc (suc k)))) h s = absurd (omega arith)

module _ {text : List ℕ} {v k : ℕ} (r : Reading text v k) (h : k < length text) where
  next_byte : number_from 0 text ≡ number_from v (get_or text k 0 ∷ drop (suc k) text)
  next_byte = r.so_far ∙ ap (number_from v) (drop-cons text k 0 h)

  -- one digit more
  pub reading_next : 48 ≤ get_or text k 0 → get_or text k 0 ≤ 57 → Reading text (10 * v + (get_or text k 0 - 48)) (k + 1)
  unfolding number_from
  reading_next a b = record {
    so_far = next_byte ∙ rw (le-ltb (get_or text k 0) 48 a, le-ltb 57 (get_or text k 0) b, add-one k) refl;
    small = rw (add-one k) (omega (arith, r.small, pow-suc 10 k));
    upto = omega arith;
  }

  -- a byte that is no digit
  pub reading_low : get_or text k 0 < 48 → number_from 0 text ≡ None
  unfolding number_from
  reading_low a = next_byte ∙ rw (lt-ltb (get_or text k 0) 48 a) refl

  pub reading_high : 48 ≤ get_or text k 0 → 57 < get_or text k 0 → number_from 0 text ≡ None
  unfolding number_from
  reading_high a b = next_byte ∙ rw (le-ltb (get_or text k 0) 48 a, lt-ltb 57 (get_or text k 0) b) refl

-- all bytes are read
pub reading_end : {text : List ℕ} {v k : ℕ} → Reading text v k → length text ≤ k → number_from 0 text ≡ Some v
unfolding number_from
reading_end {text} {v} {k} r h = r.so_far ∙ ap (λ (j : ℕ). number_from v (drop j text)) (let e : k ≡ length text = omega (arith, r.upto) in e) ∙ ap (number_from v) (drop-length text)

-- what is answered
module _ (text : List ℕ) where
  pub empty : length text ≡ 0 → None ≡ short_of text
  unfolding short_of
  empty e = rw (eq-eqb (length text) 0 e) refl

  pub too_long : 4 < length text → None ≡ short_of text
  unfolding short_of
  too_long h = rw (ne_eqb (length text) 0 (λ e. omega arith), lt-ltb 4 (length text) h) refl

  pub as_read : (o : Option ℕ) → (length text ≡ 0 → ⊥) → length text ≤ 4 → number_from 0 text ≡ o → o ≡ short_of text
  unfolding short_of
  as_read o n h e = rw (ne_eqb (length text) 0 n, le-ltb 4 (length text) h) (sym e)
