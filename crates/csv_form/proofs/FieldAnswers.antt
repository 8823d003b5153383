-- The answer at a field by the tests that are made, and what it means for the run. Assumes nothing.
use mathlib.Core.Path.{◌≡◌, refl, sym, subst, ap}
use mathlib.Core.Bool.{Bool, true, false}
use mathlib.Core.List.{List}
use Prim.Native.Nat.{ℕ, zero, suc, ◌+◌, ◌*◌, ◌-◌, ◌≤◌, ◌<◌}
use native.Mathlib.Omega.{arith}
use native.Mathlib.Decide.{ℕ_discrete, dec_lt}
use borrow.Author.Tests.{eq-eqb, ne_eqb, lt-ltb, le-ltb}
use lib.ListN.{length, get_or}
use Rattle.std.proofs.Common.{Ok, Err}
use Rattle.csv_form.specs.declared.Kind.{Kind}
use Rattle.csv_form.specs.Form.{mark, field, opened}
use Rattle.csv_form.specs.inner.Reader.{FieldAnswer, read, misfit, digit_or10, is_minus, number_from, number_at, DigitsRead, NumberRead, close_quote, digits_to, digits_from, number_of, signed_at, field_at, FieldRead}
use Rattle.csv_form.proofs.AfterAnswers.{present}
use Rattle.csv_form.proofs.ByteMarks.{past, nothing_ten, no_minus, minus_inside}
use Rattle.csv_form.proofs.Digits.{DigitsSoFar, none_yet, one_more, no_more, all_ten}
use Rattle.csv_form.proofs.Fields.{opened_plain, opened_minus, field_plain, field_minus, field_quoted}

-- ---- the same answer has the same parts
abbrev value_of : FieldAnswer → ℕ
value_of (Ok f) = f.value
value_of (Err e) = 0

abbrev minus_of : FieldAnswer → Bool
minus_of (Ok f) = f.minus
minus_of (Err e) = false

abbrev next_of : FieldAnswer → ℕ
next_of (Ok f) = f.next
next_of (Err e) = 0

pub same_read : {v v' : ℕ} {m m' : Bool} {n n' : ℕ} → read v m n ≡ read v' m' n' → (v ≡ v') × (m ≡ m') × (n ≡ n')
same_read e = (ap value_of e, ap minus_of e, ap next_of e)

-- ---- digits
module _ (s : List ℕ) where
  pub digits_stop : (left value next : ℕ) → 9 < digit_or10 (mark (get_or s next 0)) → digits_from left s value next ≡ digits_to value next
  unfolding digits_from
  digits_stop zero value next h = refl
  digits_stop (suc left) value next h = rw (lt-ltb 9 (digit_or10 (mark (get_or s next 0))) h) refl

  pub digits_spent : (left value next : ℕ) → left ≤ 0 → digits_from left s value next ≡ digits_to value next
  unfolding digits_from
  digits_spent zero value next h = refl
  digits_spent (suc left) value next h = absurd (omega arith)

  pub digits_step :
      (left value next : ℕ) → 0 < left → digit_or10 (mark (get_or s next 0)) ≤ 9 →
      digits_from left s value next ≡ digits_from (left - 1) s (value * 10 + digit_or10 (mark (get_or s next 0))) (next + 1)
  unfolding digits_from
  digits_step zero value next h k = absurd (omega arith)
  digits_step (suc left) value next h k =
      let e : suc left - 1 ≡ left = omega arith in
      rw (le-ltb 9 (digit_or10 (mark (get_or s next 0))) k, e) refl

  means_digits :
      (at left value next : ℕ) → DigitsSoFar s at value next left → DigitsRead s at (digits_from left s value next).value (digits_from left s value next).next
  unfolding digits_from
  means_digits at zero value next so_far = all_ten s at value next 0 so_far (omega arith)
  means_digits at (suc left) value next so_far = elim (dec_lt 9 (digit_or10 (mark (get_or s next 0)))) [
    | yes h ↦ rw (lt-ltb 9 (digit_or10 (mark (get_or s next 0))) h) (no_more s at value next (suc left) so_far h)
    | no h ↦
        let e : suc left - 1 ≡ left = omega arith in
        let few : digit_or10 (mark (get_or s next 0)) ≤ 9 = omega arith in
        rw (le-ltb 9 (digit_or10 (mark (get_or s next 0))) few)
        (means_digits at left (value * 10 + digit_or10 (mark (get_or s next 0))) (next + 1)
        (subst (λ (n : ℕ). DigitsSoFar s at (value * 10 + digit_or10 (mark (get_or s next 0))) (next + 1) n) e (one_more s at value next (suc left) so_far few (omega arith))))
  ]

  pub means_number : (m : Bool) (at : ℕ) → at ≤ length s → NumberRead m s at (number_of m s at)
  unfolding number_of
  means_number m at h = on (number_at m s at) refl
    where
      on : (b : Bool) → number_at m s at ≡ b → NumberRead m s at (number_of m s at)
      on true e = rw e (refl, e, means_digits at 10 0 at (none_yet s at h))
      on false e = rw e (refl, e)

  module _ (kind : Kind) where
    pub means_opened : (at : ℕ) → at ≤ length s → FieldRead kind opened s at (close_quote s (signed_at kind s at))
    unfolding signed_at
    means_opened at h = on (is_minus kind (mark (get_or s at 0))) refl
      where
        on : (b : Bool) → is_minus kind (mark (get_or s at 0)) ≡ b → FieldRead kind opened s at (close_quote s (signed_at kind s at))
        on true e = rw e (opened_minus kind s at (number_of true s (at + 1)) e (means_number true (at + 1) (omega (arith, minus_inside kind s at e))))
        on false e = rw e (opened_plain kind s at (number_of false s at) e (means_number false at h))

    pub means_field : (at : ℕ) → at ≤ length s → FieldRead kind field s at (field_at kind s at)
    unfolding field_at signed_at
    means_field at h = elim (ℕ_discrete (get_or s at 0) 34) [
      | yes e ↦
          rw (eq-eqb (get_or s at 0) 34 e)
          (field_quoted kind s at (close_quote s (signed_at kind s (at + 1))) (present s at 33 e) e (means_opened (at + 1) (omega (arith, present s at 33 e))))
      | no q ↦ rw (ne_eqb (get_or s at 0) 34 q) (on q (is_minus kind (mark (get_or s at 0))) refl)
    ]
      where
        on : (get_or s at 0 ≡ 34 → ⊥) → (b : Bool) → is_minus kind (mark (get_or s at 0)) ≡ b → FieldRead kind field s at (signed_at kind s at)
        on q true e = rw e (field_minus kind s at (number_of true s (at + 1)) e (means_number true (at + 1) (omega (arith, minus_inside kind s at e))))
        on q false e = rw e (field_plain kind s at (number_of false s at) q e (means_number false at h))

    -- ---- the answers
    pub field_past : (at : ℕ) → length s ≤ at → misfit at ≡ field_at kind s at
    unfolding field_at signed_at number_of
    field_past at h =
        rw (ne_eqb (get_or s at 0) 34 (past s at 33 h)) (rw (sym (no_minus kind s at h)) (rw (nothing (digit_or10 (mark (get_or s (at + 1) 0)))) refl))
      where
        nothing : (e : ℕ) → number_from false (digit_or10 (mark (get_or s at 0))) e ≡ false
        nothing e = rw (sym (nothing_ten s at h)) refl

    pub field_opened : (at : ℕ) → get_or s at 0 ≡ 34 → close_quote s (signed_at kind s (at + 1)) ≡ field_at kind s at
    unfolding field_at
    field_opened at e = rw (eq-eqb (get_or s at 0) 34 e) refl

    pub field_bare : (at : ℕ) → (get_or s at 0 ≡ 34 → ⊥) → signed_at kind s at ≡ field_at kind s at
    unfolding field_at
    field_bare at q = rw (ne_eqb (get_or s at 0) 34 q) refl

    pub signed_minus : (at : ℕ) → is_minus kind (mark (get_or s at 0)) ≡ true → number_of true s (at + 1) ≡ signed_at kind s at
    unfolding signed_at
    signed_minus at e = rw e refl

    pub signed_plain : (at : ℕ) → is_minus kind (mark (get_or s at 0)) ≡ false → number_of false s at ≡ signed_at kind s at
    unfolding signed_at
    signed_plain at e = rw e refl
