-- The loop over a field's digits. Assumes nothing.
use mathlib.Core.Path.{◌≡◌, refl, ap, ◌∙◌}
use mathlib.Core.Bool.{Bool}
use mathlib.Core.List.{List}
use Prim.Native.Nat.{ℕ, suc, ◌+◌, ◌*◌, ◌-◌, ◌≤◌, ◌<◌, ◌^◌}
use native.Mathlib.Omega.{arith}
use native.Mathlib.Decide.{dec_lt}
use native.Mathlib.Nat.{pow-suc, pow-le-pow_right}
use lib.IntN.{ℤ}
use lib.ListN.{length, get_or, drop}
use Rattle.csv_form.specs.declared.Kind.{Kind}
use Rattle.csv_form.specs.Form.{mark}
use Rattle.csv_form.specs.Records.{reading, run}
use Rattle.csv_form.specs.inner.Reader.{within, digit_or10, DigitsRead}
use Rattle.csv_form.proofs.ByteMarks.{no_digit_found, digit_found, inside}
use Rattle.csv_form.proofs.FormRuns.{digits_end, digits_more}

-- the digits from at to next make the value, and so many more may come
pub record DigitsSoFar (s : List ℕ) (at value next left : ℕ) : Type 0 where
  pub from : at ≤ next
  pub upto : next ≤ length s
  pub most : left ≤ 10
  pub used : next + left ≡ at + 10
  pub small : value < 10 ^ (10 - left)
  pub meaning :
      (kind : Kind) (q m b : Bool) (r : List ℤ) (rs : List (List ℤ)) →
      run kind at (reading (within q m 10) 0 m b r rs) (drop at s) ≡ run kind next (reading (within q m left) value m b r rs) (drop next s)

powers : (left : ℕ) → left ≤ 10 → 10 ^ (10 - left) ≤ 10 ^ 10
powers left h = pow-le-pow_right {n = 10} (omega arith) {i = 10 - left} {j = 10} (omega arith)

module _ (s : List ℕ) (at : ℕ) where
  pub none_yet : at ≤ length s → DigitsSoFar s at 0 at 10
  none_yet h = record { from = omega arith; upto = h; most = omega arith; used = refl; small = omega arith; meaning = λ kind q m b r rs. refl }

  module _ (value next left : ℕ) (so_far : DigitsSoFar s at value next left) where
    -- the value stays small
    pub room : (d : ℕ) → d ≤ 9 → 0 < left → value * 10 + d < 10 ^ (10 - (left - 1))
    room d h k =
        let e : 10 - (left - 1) ≡ suc (10 - left) = omega (arith, so_far.most) in
        rw e (omega (arith, pow-suc 10 (10 - left), so_far.small))

    pub fits : (d : ℕ) → d ≤ 9 → 0 < left → value * 10 + d < 10 ^ 10
    fits d h k = omega (arith, room d h k, powers (left - 1) (omega (arith, so_far.most)))

    pub one_more : digit_or10 (mark (get_or s next 0)) ≤ 9 → 0 < left → DigitsSoFar s at (value * 10 + digit_or10 (mark (get_or s next 0))) (next + 1) (left - 1)
    one_more h k = record {
      from = omega (arith, so_far.from);
      upto = omega (arith, inside s next h);
      most = omega (arith, so_far.most);
      used = omega (arith, so_far.used);
      small = room _ h k;
      meaning = λ kind q m b r rs.
          so_far.meaning kind q m b r rs
          ∙ (let e : left ≡ suc (left - 1) = omega arith in
          ap (λ (n : ℕ). run kind next (reading (within q m n) value m b r rs) (drop next s)) e
          ∙ digits_more kind q m b r rs s next _ (inside s next h) (digit_found _ h) (left - 1) value);
    }

    pub no_more : 9 < digit_or10 (mark (get_or s next 0)) → DigitsRead s at value next
    no_more h = record {
      from = so_far.from;
      upto = so_far.upto;
      small = omega (arith, so_far.small, powers left so_far.most);
      some = λ k.
          elim (dec_lt at next) [
            | yes lt ↦ lt
            | no ge ↦ absurd (let e : at ≡ next = omega (arith, so_far.from) in omega (arith, h, ap (λ (i : ℕ). digit_or10 (mark (get_or s i 0))) e))
          ];
      meaning = λ kind q m b r rs. so_far.meaning kind q m b r rs ∙ digits_end kind q m b r rs s next left value (no_digit_found _ h);
    }

    pub all_ten : left ≤ 0 → DigitsRead s at value next
    all_ten h = record {
      from = so_far.from;
      upto = so_far.upto;
      small = omega (arith, so_far.small, powers left so_far.most);
      some = λ k. omega (arith, so_far.used);
      meaning = λ kind q m b r rs.
          so_far.meaning kind q m b r rs
          ∙ (let e : left ≡ 0 = omega arith in ap (λ (n : ℕ). run kind next (reading (within q m n) value m b r rs) (drop next s)) e);
    }
