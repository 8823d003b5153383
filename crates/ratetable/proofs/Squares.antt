-- The rule has exactly one number, `rate`, and it never falls. Assumes nothing.
use mathlib.Core.Path.{◌≡◌, refl, subst}
use mathlib.Core.Logic.{inl, inr}
use mathlib.Core.Bool.{Bool, true, false, cond}
use Prim.Native.Nat.{ℕ, zero, suc, ◌*◌, ◌≤◌, ◌<◌}
use native.Mathlib.Nat.{le_of_suc-le-suc, suc-mul, mul-le-mul_left, mul-le-mul_right, eq-or-lt_of_le}
use native.Mathlib.Decide.{dec_lt}
use native.Mathlib.Omega.{arith}
use lib.Dec.{leb}
use borrow.Author.Tests.{leb-true, leb-false}
use Rattle.ratetable.specs.Rate.{IsRate, rate_up_to, rate}

-- squares rise
square_rises : (a b : ℕ) → a ≤ b → a * a ≤ b * b
square_rises a b h = omega (arith, mul-le-mul_left a h, mul-le-mul_right b h)

-- a number is at most its square
pub self_square : (s : ℕ) → s ≤ s * s
self_square zero = omega arith
self_square (suc s) = omega (arith, suc-mul s (suc s))

-- what the search finds has a square small enough
under_up_to : (y k : ℕ) → rate_up_to y k * rate_up_to y k ≤ 10000 * y
unfolding rate_up_to
under_up_to y zero = omega arith
under_up_to y (suc k) = step (leb (suc k * suc k) (10000 * y)) refl (under_up_to y k)
  where
    step : (t : Bool) → leb (suc k * suc k) (10000 * y) ≡ t → rate_up_to y k * rate_up_to y k ≤ 10000 * y
        → cond t (suc k) (rate_up_to y k) * cond t (suc k) (rate_up_to y k) ≤ 10000 * y
    step true e h = leb-true _ _ e
    step false e h = h

-- and is the greatest up to k
greatest_up_to : (y k s : ℕ) → s ≤ k → s * s ≤ 10000 * y → s ≤ rate_up_to y k
unfolding rate_up_to
greatest_up_to y zero s h q = h
greatest_up_to y (suc k) s h q = step (leb (suc k * suc k) (10000 * y)) refl (λ l. greatest_up_to y k s l q)
  where
    step : (t : Bool) → leb (suc k * suc k) (10000 * y) ≡ t → (s ≤ k → s ≤ rate_up_to y k) → s ≤ cond t (suc k) (rate_up_to y k)
    step true e f = h
    step false e f = elim (eq-or-lt_of_le h) [
      | inl g ↦ absurd (let n : 10000 * y < suc k * suc k = leb-false _ _ e in omega (arith, subst (λ (z : ℕ). z * z ≤ 10000 * y) g q))
      | inr g ↦ f (le_of_suc-le-suc g)
    ]

-- `rate` is by the rule
pub rate_is : (y : ℕ) → IsRate y (rate y)
unfolding rate
rate_is y = record {
  under = under_up_to y (10000 * y);
  greatest = λ s h. greatest_up_to y (10000 * y) s (omega (arith, self_square s)) h;
}

-- a number by the rule is `rate`
pub only_rate : {y r : ℕ} → IsRate y r → r ≡ rate y
only_rate {y} {r} i = omega (arith, i.greatest (rate y) (rate_is y).under, (rate_is y).greatest r i.under)

-- a number is by the rule as soon as its own square is at most 10,000 × y and the next one's is above
pub is_rate : (y r : ℕ) → r * r ≤ 10000 * y → 10000 * y < suc r * suc r → IsRate y r
is_rate y r a b = record {
  under = a;
  greatest = λ s h. elim (dec_lt r s) [ yes l ↦ absurd (omega (arith, square_rises (suc r) s l)) | no l ↦ omega arith ];
}

-- the rates never fall
pub rate_rises : (y z : ℕ) → y ≤ z → rate y ≤ rate z
rate_rises y z h = (rate_is z).greatest (rate y) (omega (arith, (rate_is y).under))
