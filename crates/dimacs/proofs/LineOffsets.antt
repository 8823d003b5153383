-- What is read at an offset of a line, by the byte found there (LF past the end). Assumes nothing.
use mathlib.Core.Path.{◌≡◌, refl, sym, ap, ap₂, ◌∙◌, subst}
use mathlib.Core.Bool.{Bool, true, false, ◌&&◌, and-false}
use mathlib.Core.Option.{Option, none, some}
use mathlib.Core.List.{List, [], ◌∷◌}
use Prim.Native.Nat.{ℕ, zero, suc, ◌+◌, ◌-◌, ◌*◌, ◌≤◌, ◌<◌, ◌^◌}
use native.Mathlib.Nat.{not-suc-le-zero, le_of_suc-le-suc, pow-suc, pow-le-pow_right}
use native.Mathlib.Numerals.{add-one}
use native.Mathlib.Decide.{dec_lt}
use native.Mathlib.Omega.{arith}
use lib.Dec.{leb}
use lib.ListN.{length, get_or, drop, get_or-eq_default}
use lib.Seq.{drop-cons}
use borrow.Author.Tests.{le-leb, lt-leb, eq-eqb, ne_eqb}
use Rattle.dimacs.specs.Bytes.{Got, got, ◌>>=◌, is_digit, digits, counting, number, negative, not_negative, signed, spaces, gap, field, signed_field}
use Rattle.std.proofs.Common.{Option as Maybe, Some, None, ℤ, nat_abs}
use Rattle.csv_form.specs.Records.{signed as with_sign}
use Rattle.dimacs.specs.declared.bytes.Read.{Read}
use Rattle.dimacs.specs.inner.Reader.{DigitsRead, SpacesRead, on_read, number_ends, NumberRead, SignedRead}

-- an element that is there does not depend on the default
pub at_any : (s : List ℕ) (at d e : ℕ) → at < length s → get_or s at d ≡ get_or s at e
at_any [] at d e h = absurd (not-suc-le-zero h)
at_any (x ∷ s) zero d e h = refl
at_any (x ∷ s) (suc at) d e h = at_any s at d e (le_of_suc-le-suc h)

pub nothing : (s : List ℕ) (at : ℕ) → length s ≤ at → drop at s ≡ []
nothing [] zero h = refl
nothing [] (suc at) h = refl
nothing (x ∷ s) zero h = absurd (omega arith)
nothing (x ∷ s) (suc at) h = nothing s at (le_of_suc-le-suc h)

module _ (s : List ℕ) (at b : ℕ) (e : b ≡ get_or s at 10) where
  -- a byte that is not LF is there
  pub there : (b ≡ 10 → ⊥) → at < length s
  there d = elim (dec_lt at (length s)) [ yes h ↦ h | no h ↦ absurd (d (e ∙ get_or-eq_default s 10 (omega arith))) ]

  pub front : at < length s → drop at s ≡ b ∷ drop (at + 1) s
  front h = drop-cons s at 10 h ∙ ap₂ (λ (x n : ℕ). x ∷ drop n s) (sym e) (sym (add-one at))

digit_yes : (b : ℕ) → 48 ≤ b → b ≤ 57 → is_digit b ≡ true
digit_yes b h l = ap₂ (λ (x y : Bool). x && y) (le-leb 48 b h) (le-leb b 57 l)

digit_low : (b : ℕ) → b < 48 → is_digit b ≡ false
digit_low b h = ap (λ (x : Bool). x && leb b 57) (lt-leb 48 b h)

digit_high : (b : ℕ) → 57 < b → is_digit b ≡ false
digit_high b h = ap (λ (x : Bool). leb 48 b && x) (lt-leb b 57 h) ∙ and-false (leb 48 b)

-- ---- digits

module _ (s : List ℕ) (at b : ℕ) (e : b ≡ get_or s at 10) where
  digits_more : (left v : ℕ) → 48 ≤ b → b ≤ 57 → digits (suc left) v (drop at s) ≡ digits left (v * 10 + (b - 48)) (drop (at + 1) s)
  unfolding digits
  digits_more left v h l = ap (digits (suc left) v) (front s at b e (there s at b e (λ q. omega arith))) ∙ rw (digit_yes b h l, digits)

  digits_stop : (left v : ℕ) → is_digit b ≡ false → digits (suc left) v (drop at s) ≡ got v (drop at s)
  unfolding digits
  digits_stop left v h = elim (dec_lt at (length s)) [
    | yes l ↦ rw (front s at b e l) (rw (h, digits))
    | no l ↦ rw (nothing s at (omega arith)) refl
  ]

digits_all : (v : ℕ) (l : List ℕ) → digits 0 v l ≡ got v l
unfolding digits
digits_all v [] = refl
digits_all v (b ∷ l) = refl

-- the digits from at to next make the value, and so many more may come
pub record SoFar (s : List ℕ) (at first value next left : ℕ) : Type 0 where
  pub upto : next ≤ length s
  pub most : left ≤ 9
  pub small : value < 10 ^ (10 - left)
  pub meaning : digits 9 first (drop at s) ≡ digits left value (drop next s)

powers : (left : ℕ) → left ≤ 9 → 10 ^ (10 - left) ≤ 10 ^ 10
powers left h = pow-le-pow_right {n = 10} (omega arith) {i = 10 - left} {j = 10} (omega arith)

pub so_far_start : (s : List ℕ) (at first : ℕ) → at ≤ length s → first ≤ 9 → SoFar s at first first at 9
so_far_start s at first h l = record { upto = h; most = omega arith; small = omega arith; meaning = refl }

module _ (s : List ℕ) (at first value next left : ℕ) (r : SoFar s at first value next left) where
  room : (d : ℕ) → d ≤ 9 → 0 < left → value * 10 + d < 10 ^ (10 - (left - 1))
  room d h k =
      let e : 10 - (left - 1) ≡ suc (10 - left) = omega (arith, r.most) in
      rw e (omega (arith, pow-suc 10 (10 - left), r.small))

  pub fits : (d : ℕ) → d ≤ 9 → 0 < left → value * 10 + d < 10 ^ 10
  fits d h k = omega (arith, room d h k, powers (left - 1) (omega (arith, r.most)))

  one_left : 0 < left → left ≡ suc (left - 1)
  one_left k = omega arith

  module _ (b : ℕ) (e : b ≡ get_or s next 10) (k : 0 < left) where
    pub one_more : (d : ℕ) → d ≡ b - 48 → 48 ≤ b → b ≤ 57 → SoFar s at first (value * 10 + d) (next + 1) (left - 1)
    one_more d q h l = record {
      upto = omega (arith, there s next b e (λ q. omega arith));
      most = omega (arith, r.most);
      small = room d (omega arith) k;
      meaning =
          r.meaning
          ∙ ap (λ (n : ℕ). digits n value (drop next s)) (one_left k)
          ∙ digits_more s next b e (left - 1) value h l
          ∙ ap (λ (t : ℕ). digits (left - 1) (value * 10 + t) (drop (next + 1) s)) (sym q);
    }

    stopped : is_digit b ≡ false → DigitsRead s at first value next
    stopped h = record {
      upto = r.upto;
      small = omega (arith, r.small, powers left r.most);
      meaning = r.meaning ∙ ap (λ (n : ℕ). digits n value (drop next s)) (one_left k) ∙ digits_stop s next b e (left - 1) value h;
    }

    pub no_more_low : b < 48 → DigitsRead s at first value next
    no_more_low h = stopped (digit_low b h)

    pub no_more_high : 57 < b → DigitsRead s at first value next
    no_more_high h = stopped (digit_high b h)

  pub all_read : left ≤ 0 → DigitsRead s at first value next
  all_read h = record {
    upto = r.upto;
    small = omega (arith, r.small, powers left r.most);
    meaning = r.meaning ∙ ap (λ (n : ℕ). digits n value (drop next s)) (let q : left ≡ 0 = omega arith in q) ∙ digits_all value (drop next s);
  }

-- ---- numbers

abbrev pub read : ℕ → ℕ → Maybe (Read ℕ)
read v n = Some (record { value = v; next = n })

module _ (s : List ℕ) (at b : ℕ) (e : b ≡ get_or s at 10) where
  counting_none : (leb 49 b && leb b 57) ≡ false → NumberRead counting s at None
  unfolding counting
  counting_none h = record {
    ends = tt;
    meaning = elim (dec_lt at (length s)) [
      | yes l ↦ rw (front s at b e l) (rw (h, counting))
      | no l ↦ rw (nothing s at (omega arith)) refl
    ];
  }

  pub counting_low : b < 49 → NumberRead counting s at None
  counting_low h = counting_none (ap (λ (x : Bool). x && leb b 57) (lt-leb 49 b h))

  pub counting_high : 57 < b → NumberRead counting s at None
  counting_high h = counting_none (ap (λ (x : Bool). leb 49 b && x) (lt-leb b 57 h) ∙ and-false (leb 49 b))

  pub counting_read : 49 ≤ b → b ≤ 57 → (d v next : ℕ) → d ≡ b - 48 → DigitsRead s (at + 1) d v next → NumberRead counting s at (read v next)
  unfolding counting
  counting_read h l d v next q r = record {
    ends = (r.upto, r.small);
    meaning =
        ap counting (front s at b e (there s at b e (λ q. omega arith)))
        ∙ rw (ap₂ (λ (x y : Bool). x && y) (le-leb 49 b h) (le-leb b 57 l), counting)
        (ap (λ (g : Got ℕ). some g) (ap (λ (t : ℕ). digits 9 t (drop (at + 1) s)) (sym q) ∙ r.meaning));
  }

  pub number_zero : b ≡ 48 → NumberRead number s at (read 0 (at + 1))
  unfolding number
  number_zero h = let l = there s at b e (λ q. omega arith) in record {
    ends = (omega arith, omega arith);
    meaning = ap number (front s at b e l) ∙ rw (eq-eqb b 48 h, number);
  }

  pub number_other : (b ≡ 48 → ⊥) → (a : Maybe (Read ℕ)) → NumberRead counting s at a → NumberRead number s at a
  unfolding number counting
  number_other h a r = record {
    ends = r.ends;
    meaning = elim (dec_lt at (length s)) [
      | yes l ↦ ap number (front s at b e l) ∙ rw (ne_eqb b 48 h, number) (ap counting (sym (front s at b e l)) ∙ r.meaning)
      | no l ↦ ap number (nothing s at (omega arith)) ∙ empty ∙ ap counting (sym (nothing s at (omega arith))) ∙ r.meaning
    ];
  }
    where
      empty : number [] ≡ counting []
      empty = refl

-- ---- signs

size_small : (minus : Bool) (v : ℕ) → v < 10 ^ 10 → nat_abs (with_sign minus v) < 10 ^ 10
size_small true zero h = omega arith
size_small true (suc v) h = h
size_small false v h = h

minus_none : (s : List ℕ) → (on_read {A = ℕ} s None >>= negative) ≡ none
unfolding ◌>>=◌
minus_none s = refl

minus_some : (s : List ℕ) (r : Read ℕ) (z : ℤ) → z ≡ with_sign true r.value → (on_read s (Some r) >>= negative) ≡ on_read s (Some (record { value = z; next = r.next }))
unfolding ◌>>=◌
minus_some s r z e = rw e refl

plain_none : (s : List ℕ) → (on_read {A = ℕ} s None >>= not_negative) ≡ none
unfolding ◌>>=◌
plain_none s = refl

plain_some : (s : List ℕ) (r : Read ℕ) (z : ℤ) → z ≡ with_sign false r.value → (on_read s (Some r) >>= not_negative) ≡ on_read s (Some (record { value = z; next = r.next }))
unfolding ◌>>=◌
plain_some s r z e = rw e refl

none_here : signed [] ≡ (number [] >>= not_negative)
unfolding signed number ◌>>=◌
none_here = refl

module _ (s : List ℕ) (at b : ℕ) (e : b ≡ get_or s at 10) where
  behind_minus : b ≡ 45 → signed (drop at s) ≡ (counting (drop (at + 1) s) >>= negative)
  unfolding signed
  behind_minus h = ap signed (front s at b e (there s at b e (λ q. omega arith))) ∙ rw (eq-eqb b 45 h, signed)

  as_it_stands : (b ≡ 45 → ⊥) → signed (drop at s) ≡ (number (drop at s) >>= not_negative)
  unfolding signed
  as_it_stands h = elim (dec_lt at (length s)) [
    | yes l ↦ ap signed (front s at b e l) ∙ rw (ne_eqb b 45 h, signed) (ap (λ (l : List ℕ). number l >>= not_negative) (sym (front s at b e l)))
    | no l ↦ ap signed (nothing s at (omega arith)) ∙ none_here ∙ ap (λ (l : List ℕ). number l >>= not_negative) (sym (nothing s at (omega arith)))
  ]

  module _ (h : b ≡ 45) (a : Maybe (Read ℕ)) (r : NumberRead counting s (at + 1) a) where
    pub minus_without : a ≡ None → SignedRead signed s at None
    minus_without q = record {
      ends = tt;
      meaning = behind_minus h ∙ ap (λ (o : Option (Got ℕ)). o >>= negative) (r.meaning ∙ ap (on_read s) q) ∙ minus_none s;
    }

    pub signed_minus : (n : Read ℕ) (z : ℤ) → a ≡ Some n → z ≡ with_sign true n.value → SignedRead signed s at (Some (record { value = z; next = n.next }))
    signed_minus n z q k = let ends = subst (number_ends s) q r.ends in record {
      ends = (ends.0, rw k (size_small true n.value ends.1));
      meaning = behind_minus h ∙ ap (λ (o : Option (Got ℕ)). o >>= negative) (r.meaning ∙ ap (on_read s) q) ∙ minus_some s n z k;
    }

  module _ (h : b ≡ 45 → ⊥) (a : Maybe (Read ℕ)) (r : NumberRead number s at a) where
    pub plain_without : a ≡ None → SignedRead signed s at None
    plain_without q = record {
      ends = tt;
      meaning = as_it_stands h ∙ ap (λ (o : Option (Got ℕ)). o >>= not_negative) (r.meaning ∙ ap (on_read s) q) ∙ plain_none s;
    }

    pub signed_plain : (n : Read ℕ) (z : ℤ) → a ≡ Some n → z ≡ with_sign false n.value → SignedRead signed s at (Some (record { value = z; next = n.next }))
    signed_plain n z q k = let ends = subst (number_ends s) q r.ends in record {
      ends = (ends.0, rw k (size_small false n.value ends.1));
      meaning = as_it_stands h ∙ ap (λ (o : Option (Got ℕ)). o >>= not_negative) (r.meaning ∙ ap (on_read s) q) ∙ plain_some s n z k;
    }

  -- ---- spaces

  pub spaces_more : b ≡ 32 → spaces (drop at s) ≡ spaces (drop (at + 1) s)
  unfolding spaces
  spaces_more h = ap spaces (front s at b e (there s at b e (λ q. omega arith))) ∙ rw (eq-eqb b 32 h, spaces)

  pub spaces_stop : (b ≡ 32 → ⊥) → spaces (drop at s) ≡ drop at s
  unfolding spaces
  spaces_stop h = elim (dec_lt at (length s)) [
    | yes l ↦ rw (front s at b e l) (rw (ne_eqb b 32 h, spaces))
    | no l ↦ rw (nothing s at (omega arith)) refl
  ]

  pub gap_none : (b ≡ 32 → ⊥) → gap (drop at s) ≡ none
  unfolding gap
  gap_none h = elim (dec_lt at (length s)) [
    | yes l ↦ rw (front s at b e l) (rw (ne_eqb b 32 h, gap))
    | no l ↦ rw (nothing s at (omega arith)) refl
  ]

  pub gap_some : b ≡ 32 → (next : ℕ) → SpacesRead s (at + 1) next → gap (drop at s) ≡ some (drop next s)
  unfolding gap
  gap_some h next r = ap gap (front s at b e (there s at b e (λ q. omega arith))) ∙ rw (eq-eqb b 32 h, gap) (ap (λ (l : List ℕ). some l) r.meaning)

  -- ---- fields

  pub field_none : (b ≡ 32 → ⊥) → NumberRead field s at None
  unfolding field ◌>>=◌
  field_none h = record { ends = tt; meaning = ap (λ (o : Option (List ℕ)). o >>= number) (gap_none h) }

  pub field_some : b ≡ 32 → (next : ℕ) → SpacesRead s (at + 1) next → (a : Maybe (Read ℕ)) → NumberRead number s next a → NumberRead field s at a
  unfolding field ◌>>=◌
  field_some h next r a n = record { ends = n.ends; meaning = ap (λ (o : Option (List ℕ)). o >>= number) (gap_some h next r) ∙ n.meaning }

  pub signed_field_none : (b ≡ 32 → ⊥) → SignedRead signed_field s at None
  unfolding signed_field ◌>>=◌
  signed_field_none h = record { ends = tt; meaning = ap (λ (o : Option (List ℕ)). o >>= signed) (gap_none h) }

  pub signed_field_some : b ≡ 32 → (next : ℕ) → SpacesRead s (at + 1) next → (a : Maybe (Read ℤ)) → SignedRead signed s next a → SignedRead signed_field s at a
  unfolding signed_field ◌>>=◌
  signed_field_some h next r a n = record { ends = n.ends; meaning = ap (λ (o : Option (List ℕ)). o >>= signed) (gap_some h next r) ∙ n.meaning }
