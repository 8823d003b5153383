-- The answers at a field. Assumes nothing.
use mathlib.Core.Path.{◌≡◌, refl, ap, sym, ◌∙◌}
use mathlib.Core.Bool.{Bool, true, false, ◌||◌, not, true≢false, false≢true}
use mathlib.Core.Option.{none}
use mathlib.Core.List.{List}
use Prim.Native.Nat.{ℕ, zero, suc, ◌+◌, ◌≤◌, ◌<◌}
use native.Mathlib.Omega.{arith}
use native.Mathlib.Decide.{dec_lt}
use borrow.Author.Tests.{eqb-true, eqb-false, lt-ltb, le-ltb, ltb-true, ltb-false}
use lib.Dec.{eqb, ltb}
use lib.IntN.{ℤ}
use lib.ListN.{length, get_or, drop}
use Rattle.csv_form.specs.declared.Kind.{Kind}
use Rattle.std.proofs.Common.{Ok, Err, Option, Some, None, is_some}
use Rattle.csv_form.specs.Form.{digit, quote, mark, field, opened, step}
use Rattle.csv_form.specs.Records.{reading, run, is_first, absorb, Form, broken}
use Rattle.csv_form.specs.inner.Reader.{FieldAnswer, misfit, read, digit_or10, digit_of, is_minus, pick_bool, number_from, within, closed_as, NumberRead, pick_field, close_quote, on_field, FieldRead, field_ends}
use Rattle.csv_form.proofs.ByteMarks.{none_above, some_is, some_small, no_digit_found, digit_found, seen, known, inside, past, nothing_ten, minus_inside, no_minus}
use Rattle.csv_form.proofs.FormRuns.{here, refused, start, start_on, start_clear, quoted_on, quoted_clear, no_field, no_opened, no_signed}
use Rattle.csv_form.proofs.FormRuns.{no_zero, no_quote, begins, zero_alone, zero_led, bare_closed, quote_closed, minus_begins}

-- after a number: its digits are read, or there is none
abbrev on_number : Kind → Bool → Bool → Bool → List ℤ → List (List ℤ) → List ℕ → FieldAnswer → Form
on_number kind q m b r rs s (Ok f) = run kind f.next (reading (within q m 0) f.value m b r rs) (drop f.next s)
on_number kind q m b r rs s (Err e) = broken e.place

-- a byte that no number begins with
abbrev Barred : Kind → Bool → Bool → List ℕ → ℕ → Type 0
Barred kind q m s at = (source : Bool) → 9 < digit_or10 (mark (get_or s at 0)) → step kind source (start q m) (mark (get_or s at 0)) ≡ none

number_digit : (m : Bool) (d e : ℕ) → number_from m d e ≡ true → d ≤ 9
number_digit m d e n =
    elim (dec_lt 9 d) [
      | yes h ↦ absurd (false≢true (sym (ap (λ (t : Bool). pick_bool t false (pick_bool (ltb 0 d) true (pick_bool m false (ltb 9 e)))) (lt-ltb 9 d h)) ∙ n))
      | no h ↦ omega arith
    ]

-- whether a number begins, by the tests that are made
module _ (m : Bool) (d e : ℕ) where
  pub number_none : 9 < d → false ≡ number_from m d e
  number_none h = rw (lt-ltb 9 d h) refl

  module _ (few : d ≤ 9) where
    pub number_plain : 0 < d → true ≡ number_from m d e
    number_plain h = rw (le-ltb 9 d few) (rw (lt-ltb 0 d h) refl)

    pub number_minus : d ≤ 0 → m ≡ true → false ≡ number_from m d e
    number_minus h k = rw (le-ltb 9 d few) (rw (le-ltb 0 d h) (rw k refl))

    pub number_zero : d ≤ 0 → m ≡ false → ltb 9 e ≡ number_from m d e
    number_zero h k = rw (le-ltb 9 d few) (rw (le-ltb 0 d h) (rw k refl))

-- the same by the digits that are found
module _ (m : Bool) (b : ℕ) where
  pub number_lead : (d e : ℕ) → Some d ≡ digit_of (mark b) → (d ≡ 0 → ⊥) → true ≡ number_from m (digit_or10 (mark b)) e
  number_lead d e k h =
      number_plain m (digit_or10 (mark b)) e (omega (arith, some_is (mark b) d k, some_small b d k)) (omega (arith, some_is (mark b) d k))

  module _ (z : ℕ) (k : Some z ≡ digit_of (mark b)) (zero : z ≡ 0) where
    pub number_barred_zero : (e : ℕ) → m ≡ true → false ≡ number_from m (digit_or10 (mark b)) e
    number_barred_zero e h =
        number_minus m (digit_or10 (mark b)) e (omega (arith, some_is (mark b) z k, zero)) (omega (arith, some_is (mark b) z k, zero)) h

    pub number_single : (b' : ℕ) (next : Option ℕ) (t : Bool) → m ≡ false → next ≡ digit_of (mark b') → is_some next ≡ not t →
        t ≡ number_from m (digit_or10 (mark b)) (digit_or10 (mark b'))
    number_single b' next t h e n = on next t e n ∙ number_zero m (digit_or10 (mark b)) (digit_or10 (mark b')) (omega (arith, some_is (mark b) z k, zero)) (omega (arith, some_is (mark b) z k, zero)) h
      where
        on : (next : Option ℕ) (t : Bool) → next ≡ digit_of (mark b') → is_some next ≡ not t → t ≡ ltb 9 (digit_or10 (mark b'))
        on None true e n = sym (lt-ltb 9 (digit_or10 (mark b')) (none_above (mark b') e))
        on (Some d) false e n = sym (le-ltb 9 (digit_or10 (mark b')) (omega (arith, some_is (mark b') d e, some_small b' d e)))
        on None false e n = absurd (false≢true n)
        on (Some d) true e n = absurd (true≢false n)

module _ (kind : Kind) (s : List ℕ) where
  signed_none : (q : Bool) (at : ℕ) → Barred kind q true s at
  signed_none q at source h = no_signed kind source q _ (no_digit_found _ h)

  opened_none : (at : ℕ) → is_minus kind (mark (get_or s at 0)) ≡ false → Barred kind true false s at
  opened_none at e source h = no_opened kind source _ e (no_digit_found _ h)

  field_none : (at : ℕ) → (get_or s at 0 ≡ 34 → ⊥) → is_minus kind (mark (get_or s at 0)) ≡ false → Barred kind false false s at
  field_none at q e source h = no_field kind source _ _ (seen _) q e (no_digit_found _ h)

  -- a number that begins
  number_begins : (at : ℕ) (q m b : Bool) (r : List ℤ) (rs : List (List ℤ)) (d : ℕ) → digit_or10 (mark (get_or s at 0)) ≡ d →
      number_from m d (digit_or10 (mark (get_or s (at + 1) 0))) ≡ true →
      run kind at (reading (start q m) 0 m b r rs) (drop at s) ≡ run kind at (reading (within q m 10) 0 m b r rs) (drop at s)
  number_begins at q m b r rs d e n =
      let few = number_digit m d (digit_or10 (mark (get_or s (at + 1) 0))) n in
      let k : mark (get_or s at 0) ≡ digit d = digit_found (mark (get_or s at 0)) (omega arith) ∙ ap digit e in
      go m d few k n
    where
      go : (m : Bool) (d : ℕ) → d ≤ 9 → mark (get_or s at 0) ≡ digit d → number_from m d (digit_or10 (mark (get_or s (at + 1) 0))) ≡ true →
          run kind at (reading (start q m) 0 m b r rs) (drop at s) ≡ run kind at (reading (within q m 10) 0 m b r rs) (drop at s)
      go m (suc d) few k n = begins kind q m b r rs s at d (inside s at (rw k few)) k
      go true zero few k n = absurd (false≢true n)
      go false zero few k n = zero_alone kind q b r rs s at (inside s at (rw k few)) k (no_digit_found _ (ltb-true 9 (digit_or10 (mark (get_or s (at + 1) 0))) n))

  -- none begins
  number_barred : (at : ℕ) (q m b : Bool) (r : List ℤ) (rs : List (List ℤ)) (d : ℕ) → digit_or10 (mark (get_or s at 0)) ≡ d →
      number_from m d (digit_or10 (mark (get_or s (at + 1) 0))) ≡ false → Barred kind q m s at →
      run kind at (reading (start q m) 0 m b r rs) (drop at s) ≡ broken at
  number_barred at q m b r rs d e n bar =
      elim (dec_lt 9 d) [
        | yes h ↦ refused kind (reading (start q m) 0 m b r rs) s at (bar (b || is_first rs) (omega arith)) (start_clear q m (mark (get_or s at 0)) at) (start_on kind q m)
        | no h ↦ go m d (omega arith) (digit_found (mark (get_or s at 0)) (omega arith) ∙ ap digit e) n
      ]
    where
      go : (m : Bool) (d : ℕ) → d ≤ 9 → mark (get_or s at 0) ≡ digit d → number_from m d (digit_or10 (mark (get_or s (at + 1) 0))) ≡ false →
          run kind at (reading (start q m) 0 m b r rs) (drop at s) ≡ broken at
      go m (suc d) few k n = absurd (true≢false (number_plain m (suc d) (digit_or10 (mark (get_or s (at + 1) 0))) few (omega arith) ∙ n))
      go true zero few k n =
          refused kind (reading (start q true) 0 true b r rs) s at (rw k (no_zero kind (b || is_first rs) q)) (start_clear q true (mark (get_or s at 0)) at) (start_on kind q true)
      go false zero few k n =
          let h : digit_or10 (mark (get_or s (at + 1) 0)) ≤ 9 = ltb-false 9 (digit_or10 (mark (get_or s (at + 1) 0))) n in
          zero_led kind q b r rs s at (digit_or10 (mark (get_or s (at + 1) 0))) (inside s (at + 1) h) k (digit_found (mark (get_or s (at + 1) 0)) h)

  number : (at : ℕ) (a : FieldAnswer) (q m b : Bool) (r : List ℤ) (rs : List (List ℤ)) → NumberRead m s at a → Barred kind q m s at →
      run kind at (reading (start q m) 0 m b r rs) (drop at s) ≡ on_number kind q m b r rs s a
  number at (Ok f) q m b r rs n bar = number_begins at q m b r rs _ refl n.1 ∙ n.2.meaning kind q m b r rs
  number at (Err e) q m b r rs n bar = number_barred at q m b r rs _ refl n.1 bar ∙ ap broken (sym n.0)

  -- a bare number is a field
  bare_end : (at : ℕ) (a : FieldAnswer) (m b : Bool) (r : List ℤ) (rs : List (List ℤ)) → NumberRead m s at a →
      on_number kind false m (m || b) r rs s a ≡ on_field kind b r rs s a
  bare_end at (Err e) m b r rs n = refl
  bare_end at (Ok f) m b r rs n = go m f.minus n.0
    where
      go : (m m' : Bool) → m' ≡ m →
          run kind f.next (reading (within false m 0) f.value m (m || b) r rs) (drop f.next s)
          ≡ run kind f.next (reading (closed_as m') f.value m' (m' || b) r rs) (drop f.next s)
      go true true k = bare_closed kind true true f.value r rs s f.next
      go false false k = bare_closed kind false b f.value r rs s f.next
      go false true k = absurd (true≢false k)
      go true false k = absurd (false≢true k)

  bare_ends : (at : ℕ) (a : FieldAnswer) (m : Bool) → NumberRead m s at a → field_ends s at a
  bare_ends at (Ok f) m n = (n.2.some (number_digit m (digit_or10 (mark (get_or s at 0))) (digit_or10 (mark (get_or s (at + 1) 0))) n.1), n.2.upto, n.2.small)
  bare_ends at (Err e) m n = tt

  -- a number in quotes is one where the quote is closed
  quote_end : (at : ℕ) (a : FieldAnswer) (m b : Bool) (r : List ℤ) (rs : List (List ℤ)) → NumberRead m s at a →
      on_number kind true m (m || b) r rs s a ≡ on_field kind b r rs s (close_quote s a)
  unfolding mark
  quote_end at (Err e) m b r rs n = refl
  quote_end at (Ok f) m b r rs n = go (eqb (get_or s f.next 0) 34) refl
    where
      closed_on : (m' m : Bool) → m' ≡ m → f.next < length s → get_or s f.next 0 ≡ 34 →
          run kind f.next (reading (within true m 0) f.value m (m || b) r rs) (drop f.next s)
          ≡ run kind (f.next + 1) (reading (closed_as m') f.value m' (m' || b) r rs) (drop (f.next + 1) s)
      closed_on true true k h e = quote_closed kind true true f.value r rs s f.next h (known _ 34 e)
      closed_on false false k h e = quote_closed kind false b f.value r rs s f.next h (known _ 34 e)
      closed_on true false k h e = absurd (true≢false k)
      closed_on false true k h e = absurd (false≢true k)

      go : (t : Bool) → eqb (get_or s f.next 0) 34 ≡ t →
          run kind f.next (reading (within true m 0) f.value m (m || b) r rs) (drop f.next s)
          ≡ on_field kind b r rs s (pick_field t (read f.value f.minus (f.next + 1)) (misfit f.next))
      go true e =
          let k = eqb-true (get_or s f.next 0) 34 e in
          closed_on f.minus m n.0 (elim (dec_lt f.next (length s)) [ yes h ↦ h | no h ↦ absurd (past s f.next 33 (omega arith) k) ]) k
      go false e =
          refused kind (reading (within true m 0) f.value m (m || b) r rs) s f.next
          (no_quote kind ((m || b) || is_first rs) m (get_or s f.next 0) (mark (get_or s f.next 0)) (seen (get_or s f.next 0)) (λ k. eqb-false (get_or s f.next 0) 34 e k))
          (quoted_clear m (mark (get_or s f.next 0)) f.next) (quoted_on kind m)

  quote_ends : (at : ℕ) (a : FieldAnswer) (m : Bool) → NumberRead m s at a → field_ends s at (close_quote s a)
  quote_ends at (Err e) m n = tt
  quote_ends at (Ok f) m n = go (eqb (get_or s f.next 0) 34) refl
    where
      go : (t : Bool) → eqb (get_or s f.next 0) 34 ≡ t → field_ends s at (pick_field t (read f.value f.minus (f.next + 1)) (misfit f.next))
      go true e =
          let k = eqb-true (get_or s f.next 0) 34 e in
          let h : f.next < length s = elim (dec_lt f.next (length s)) [ yes h ↦ h | no h ↦ absurd (past s f.next 33 (omega arith) k) ] in
          (omega (arith, n.2.from), omega arith, n.2.small)
      go false e = tt

  later : (at : ℕ) (a : FieldAnswer) → field_ends s (at + 1) a → field_ends s at a
  later at (Ok f) k = (omega (arith, k.0), k.1, k.2)
  later at (Err e) k = tt

  module _ (at : ℕ) (a : FieldAnswer) where
    pub opened_plain : is_minus kind (mark (get_or s at 0)) ≡ false → NumberRead false s at a → FieldRead kind opened s at (close_quote s a)
    opened_plain e n = record {
      ends = quote_ends at a false n;
      meaning = λ b r rs. number at a true false b r rs n (opened_none at e) ∙ quote_end at a false b r rs n;
    }

    pub opened_minus : is_minus kind (mark (get_or s at 0)) ≡ true → NumberRead true s (at + 1) a → FieldRead kind opened s at (close_quote s a)
    opened_minus e n = record {
      ends = later at (close_quote s a) (quote_ends (at + 1) a true n);
      meaning = λ b r rs.
          minus_begins kind true b r rs s at (minus_inside kind s at e) e
          ∙ number (at + 1) a true true true r rs n (signed_none true (at + 1)) ∙ quote_end (at + 1) a true b r rs n;
    }

    pub field_plain : (get_or s at 0 ≡ 34 → ⊥) → is_minus kind (mark (get_or s at 0)) ≡ false → NumberRead false s at a → FieldRead kind field s at a
    field_plain q e n = record {
      ends = bare_ends at a false n;
      meaning = λ b r rs. number at a false false b r rs n (field_none at q e) ∙ bare_end at a false b r rs n;
    }

    pub field_minus : is_minus kind (mark (get_or s at 0)) ≡ true → NumberRead true s (at + 1) a → FieldRead kind field s at a
    field_minus e n = record {
      ends = later at a (bare_ends (at + 1) a true n);
      meaning = λ b r rs.
          minus_begins kind false b r rs s at (minus_inside kind s at e) e
          ∙ number (at + 1) a false true true r rs n (signed_none false (at + 1)) ∙ bare_end (at + 1) a true b r rs n;
    }

    pub field_quoted : at < length s → get_or s at 0 ≡ 34 → FieldRead kind opened s (at + 1) a → FieldRead kind field s at a
    unfolding step mark absorb
    field_quoted h e read = record {
      ends = later at a read.ends;
      meaning = λ b r rs. here kind (reading field 0 false b r rs) s at quote h (known _ 34 e) ∙ read.meaning b r rs;
    }

  -- no field at the end of the file
  pub field_end : (at : ℕ) → length s ≤ at → FieldRead kind field s at (misfit at)
  field_end at h = field_plain at (misfit at) (past s at 33 h) (sym (no_minus kind s at h)) (refl, nothing_number (digit_or10 (mark (get_or s (at + 1) 0))))
    where
      nothing_number : (e : ℕ) → number_from false (digit_or10 (mark (get_or s at 0))) e ≡ false
      nothing_number e = rw (sym (nothing_ten s at h)) refl
