-- What the tests on a byte say of its mark. Assumes nothing.
use mathlib.Core.Path.{◌≡◌, refl, ap, sym, ◌∙◌, subst}
use mathlib.Core.Bool.{Bool, true, false, ◌&&◌, and-false, false≢true}
use Prim.Native.Nat.{ℕ, suc, ◌-◌, ◌≤◌, ◌<◌}
use native.Mathlib.Omega.{arith}
use native.Mathlib.Decide.{dec_le, dec_lt}
use borrow.Author.Tests.{le-leb, lt-leb, eqb-true, ne_eqb}
use lib.Dec.{eqb, leb}
use lib.ListN.{length, get_or, get_or-eq_default}
use mathlib.Core.List.{List}
use Rattle.csv_form.specs.declared.Kind.{Kind}
use Rattle.csv_form.specs.declared.Kind.TheVariants.{Tariff, Production}
use Rattle.csv_form.specs.Form.{Mark, digit, minus, quote, comma, cr, lf, other, pick_mark, mark}
use Rattle.std.proofs.Common.{Option, Some, None}
use Rattle.csv_form.specs.inner.Reader.{digit_or10, digit_of, is_minus}

abbrev pub NotDigit : Mark → Type 0
NotDigit (digit d) = ⊥
NotDigit minus = Unit {0}
NotDigit quote = Unit {0}
NotDigit comma = Unit {0}
NotDigit cr = Unit {0}
NotDigit lf = Unit {0}
NotDigit other = Unit {0}

pub mark_digit : (b : ℕ) → 48 ≤ b → b ≤ 57 → mark b ≡ digit (b - 48)
unfolding mark
mark_digit b lo hi = simp (le-leb 48 b lo, le-leb b 57 hi)

no_digit : (m q c r l : Bool) → NotDigit (pick_mark m minus (pick_mark q quote (pick_mark c comma (pick_mark r cr (pick_mark l lf other)))))
no_digit true q c r l = tt
no_digit false true c r l = tt
no_digit false false true r l = tt
no_digit false false false true l = tt
no_digit false false false false true = tt
no_digit false false false false false = tt

pub below_digit : (b : ℕ) → b < 48 → NotDigit (mark b)
unfolding mark
below_digit b h = simp (lt-leb 48 b h) (no_digit (eqb b 45) (eqb b 34) (eqb b 44) (eqb b 13) (eqb b 10))

pub above_digit : (b : ℕ) → 57 < b → NotDigit (mark b)
unfolding mark
above_digit b h = simp (lt-leb b 57 h, and-false) (no_digit (eqb b 45) (eqb b 34) (eqb b 44) (eqb b 13) (eqb b 10))

ten : (m : Mark) → NotDigit m → 10 ≡ digit_or10 m
ten (digit d) h = absurd h
ten minus h = refl
ten quote h = refl
ten comma h = refl
ten cr h = refl
ten lf h = refl
ten other h = refl

pub below_ten : (b : ℕ) → b < 48 → 10 ≡ digit_or10 (mark b)
below_ten b h = ten (mark b) (below_digit b h)

pub above_ten : (b : ℕ) → 57 < b → 10 ≡ digit_or10 (mark b)
above_ten b h = ten (mark b) (above_digit b h)

no_digit_of : (m : Mark) → NotDigit m → None ≡ digit_of m
no_digit_of (digit d) h = absurd h
no_digit_of minus h = refl
no_digit_of quote h = refl
no_digit_of comma h = refl
no_digit_of cr h = refl
no_digit_of lf h = refl
no_digit_of other h = refl

pub below_none : (b : ℕ) → b < 48 → None ≡ digit_of (mark b)
below_none b h = no_digit_of (mark b) (below_digit b h)

pub above_none : (b : ℕ) → 57 < b → None ≡ digit_of (mark b)
above_none b h = no_digit_of (mark b) (above_digit b h)

pub nothing_none : (s : List ℕ) (at : ℕ) → length s ≤ at → None ≡ digit_of (mark (get_or s at 0))
nothing_none s at h = rw (get_or-eq_default s 0 h) (below_none 0 (omega arith))

-- past the end of a list there is no digit
pub nothing_ten : (s : List ℕ) (at : ℕ) → length s ≤ at → 10 ≡ digit_or10 (mark (get_or s at 0))
nothing_ten s at h = rw (get_or-eq_default s 0 h) (below_ten 0 (omega arith))

-- what the digit that was found says of the mark
pub no_digit_found : (b : ℕ) → 9 < digit_or10 (mark b) → NotDigit (mark b)
no_digit_found b h =
    elim (dec_le 48 b) [
      | yes lo ↦ elim (dec_le b 57) [
        | yes hi ↦ absurd (let e : digit_or10 (mark b) ≡ b - 48 = ap digit_or10 (mark_digit b lo hi) in omega arith)
        | no hi ↦ above_digit b (omega arith)
      ]
      | no lo ↦ below_digit b (omega arith)
    ]

pub digit_found : (m : Mark) → digit_or10 m ≤ 9 → m ≡ digit (digit_or10 m)
digit_found (digit d) h = refl
digit_found minus h = absurd (omega arith)
digit_found quote h = absurd (omega arith)
digit_found comma h = absurd (omega arith)
digit_found cr h = absurd (omega arith)
digit_found lf h = absurd (omega arith)
digit_found other h = absurd (omega arith)

-- which byte has a mark
abbrev pub Seen : ℕ → Mark → Type 0
Seen b (digit d) = Unit {0}
Seen b minus = b ≡ 45
Seen b quote = b ≡ 34
Seen b comma = b ≡ 44
Seen b cr = b ≡ 13
Seen b lf = b ≡ 10
Seen b other = Unit {0}

seen_by :
    (b : ℕ) (d m q c r l : Bool) →
    eqb b 45 ≡ m → eqb b 34 ≡ q → eqb b 44 ≡ c → eqb b 13 ≡ r → eqb b 10 ≡ l →
    Seen b (pick_mark d (digit (b - 48)) (pick_mark m minus (pick_mark q quote (pick_mark c comma (pick_mark r cr (pick_mark l lf other))))))
seen_by b true m q c r l em eq ec er el = tt
seen_by b false true q c r l em eq ec er el = eqb-true b 45 em
seen_by b false false true c r l em eq ec er el = eqb-true b 34 eq
seen_by b false false false true r l em eq ec er el = eqb-true b 44 ec
seen_by b false false false false true l em eq ec er el = eqb-true b 13 er
seen_by b false false false false false true em eq ec er el = eqb-true b 10 el
seen_by b false false false false false false em eq ec er el = tt

pub seen : (b : ℕ) → Seen b (mark b)
unfolding mark
seen b = seen_by b (leb 48 b && leb b 57) (eqb b 45) (eqb b 34) (eqb b 44) (eqb b 13) (eqb b 10) refl refl refl refl refl

-- the mark of a byte that is known
pub known : (b k : ℕ) → b ≡ k → mark b ≡ mark k
known b k e = ap mark e

-- a digit is within the list
pub inside : (s : List ℕ) (at : ℕ) → digit_or10 (mark (get_or s at 0)) ≤ 9 → at < length s
inside s at h = elim (dec_lt at (length s)) [ yes k ↦ k | no k ↦ absurd (omega (arith, nothing_ten s at (omega arith))) ]

-- nothing stands past the end
pub past : (s : List ℕ) (at k : ℕ) → length s ≤ at → get_or s at 0 ≡ suc k → ⊥
past s at k h e = omega (arith, get_or-eq_default s 0 h)

-- ---- a minus

digit_plain : (b : ℕ) → (leb 48 b && leb b 57) ≡ true → eqb b 45 ≡ false
digit_plain b e =
    elim (dec_le 48 b) [
      | yes lo ↦ ne_eqb b 45 (λ z. omega arith)
      | no lo ↦ absurd (false≢true (sym (ap (λ (x : Bool). x && leb b 57) (lt-leb 48 b (omega arith))) ∙ e))
    ]

pub minus_byte : (b : ℕ) → eqb b 45 ≡ is_minus Tariff (mark b)
unfolding mark
minus_byte b = by (leb 48 b && leb b 57) (eqb b 45) (eqb b 34) (eqb b 44) (eqb b 13) (eqb b 10) (digit_plain b)
  where
    by : (d m q c r l : Bool) → (d ≡ true → m ≡ false) →
        m ≡ is_minus Tariff (pick_mark d (digit (b - 48)) (pick_mark m minus (pick_mark q quote (pick_mark c comma (pick_mark r cr (pick_mark l lf other))))))
    by true m q c r l h = h refl
    by false true q c r l h = refl
    by false false true c r l h = refl
    by false false false true r l h = refl
    by false false false false true l h = refl
    by false false false false false true h = refl
    by false false false false false false h = refl

-- nothing stands past the end
pub no_minus : (kind : Kind) (s : List ℕ) (at : ℕ) → length s ≤ at → false ≡ is_minus kind (mark (get_or s at 0))
no_minus Production s at h = refl
no_minus Tariff s at h = rw (get_or-eq_default s 0 h) (minus_byte 0)

-- a minus is within the list
pub minus_inside : (kind : Kind) (s : List ℕ) (at : ℕ) → is_minus kind (mark (get_or s at 0)) ≡ true → at < length s
minus_inside kind s at e =
    elim (dec_lt at (length s)) [ yes k ↦ k | no k ↦ absurd (false≢true (no_minus kind s at (omega arith) ∙ e)) ]

-- ---- a 0

pub mark_zero : (b : ℕ) → mark b ≡ digit 0 → b ≡ 48
mark_zero b e =
    elim (dec_le 48 b) [
      | yes lo ↦ elim (dec_le b 57) [
        | yes hi ↦ (let k : b - 48 ≡ 0 = ap digit_or10 (sym (mark_digit b lo hi) ∙ e) in omega arith)
        | no hi ↦ absurd (subst (λ (m : Mark). NotDigit m) e (above_digit b (omega arith)))
      ]
      | no lo ↦ absurd (subst (λ (m : Mark). NotDigit m) e (below_digit b (omega arith)))
    ]

-- a digit is at most 9
pub digit_small : (b d : ℕ) → mark b ≡ digit d → digit_or10 (mark b) ≤ 9
digit_small b d e =
    elim (dec_le 48 b) [
      | yes lo ↦ elim (dec_le b 57) [
        | yes hi ↦ (let k : digit_or10 (mark b) ≡ b - 48 = ap digit_or10 (mark_digit b lo hi) in omega arith)
        | no hi ↦ absurd (subst (λ (m : Mark). NotDigit m) e (above_digit b (omega arith)))
      ]
      | no lo ↦ absurd (subst (λ (m : Mark). NotDigit m) e (below_digit b (omega arith)))
    ]

-- what the digit at an offset says, found or not
abbrev or10 : Option ℕ → ℕ
or10 (Some d) = d
or10 None = 10

or10_digit : (m : Mark) → digit_or10 m ≡ or10 (digit_of m)
or10_digit (digit d) = refl
or10_digit minus = refl
or10_digit quote = refl
or10_digit comma = refl
or10_digit cr = refl
or10_digit lf = refl
or10_digit other = refl

abbrev found : Option ℕ → Bool
found (Some d) = true
found None = false

pub none_above : (m : Mark) → None ≡ digit_of m → 9 < digit_or10 m
none_above m e = let k : digit_or10 m ≡ 10 = or10_digit m ∙ ap or10 (sym e) in omega arith

pub some_is : (m : Mark) (d : ℕ) → Some d ≡ digit_of m → digit_or10 m ≡ d
some_is m d e = or10_digit m ∙ ap or10 (sym e)

pub some_small : (b d : ℕ) → Some d ≡ digit_of (mark b) → d ≤ 9
some_small b d e =
    elim (dec_le 48 b) [
      | yes lo ↦ elim (dec_le b 57) [
        | yes hi ↦ (let k : digit_or10 (mark b) ≡ b - 48 = ap digit_or10 (mark_digit b lo hi) in omega (arith, some_is (mark b) d e))
        | no hi ↦ absurd (false≢true (ap found (above_none b (omega arith) ∙ sym e)))
      ]
      | no lo ↦ absurd (false≢true (ap found (below_none b (omega arith) ∙ sym e)))
    ]
