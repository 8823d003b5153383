-- The laws of the bits of a word: the lowest one, those that are left. Assumes nothing.
use mathlib.Core.Path.{◌≡◌, refl, sym, ap, ◌∙◌}
use mathlib.Core.Logic.{◌≢◌}
use Prim.Native.Nat.{ℕ, zero, suc, max, ◌+◌, ◌-◌, ◌*◌, ◌/◌, ◌%◌, ◌^◌, ◌≤◌, ◌<◌}
use native.Mathlib.Nat.{pow-suc}
use native.Mathlib.Decide.{ℕ_discrete, dec_lt}
use native.Mathlib.Omega.{arith}
use lib.Pow.{shl_exact}
use lib.Bits.{bit_and, bit_or, and_step, or_step, and_self, or_add_and, and_le_l, and_le_r}
use lib.Count.{count_trailing_zeros, under}
use Rattle.residual.specs.inner.Bits.{bit, Left}

-- ---- bits

pub bit_none : (i : ℕ) → bit 0 i ≡ 0
unfolding bit
bit_none zero = refl
bit_none (suc i) = bit_none i

pub bit_most : (r i : ℕ) → bit r i ≤ 1
unfolding bit
bit_most r zero = omega arith
bit_most r (suc i) = bit_most (r / 2) i

pub bit_or_lem : (a b i : ℕ) → bit (bit_or a b) i ≡ max (bit a i) (bit b i)
unfolding bit
bit_or_lem a b zero = omega (arith, or_step a b)
bit_or_lem a b (suc i) = let e : bit_or a b / 2 ≡ bit_or (a / 2) (b / 2) = omega (arith, or_step a b) in rw e (bit_or_lem (a / 2) (b / 2) i)

-- a number with the bits of two is not below either
pub or_above : (a b : ℕ) → (a ≤ bit_or a b) × (b ≤ bit_or a b)
or_above a b = (omega (arith, or_add_and a b, and_le_r a b), omega (arith, or_add_and a b, and_le_l a b))

half_lt : (k : ℕ) {r : ℕ} → r < 2 ^ suc k → r / 2 < 2 ^ k
half_lt k h = omega (arith, pow-suc 2 k)

pub bit_own : (w : ℕ) → bit (2 ^ w) w ≡ 1
unfolding bit
bit_own zero = refl
bit_own (suc w) = let e : 2 ^ suc w / 2 ≡ 2 ^ w = omega (arith, pow-suc 2 w) in rw e (bit_own w)

pub bit_place : (m r i : ℕ) → r < 2 ^ m → bit r i ≡ 1 → i < m
unfolding bit
bit_place zero r i h o = let z : r ≡ 0 = omega arith in absurd (omega (arith, ap (λ y. bit y i) z, bit_none i))
bit_place (suc m) r zero h o = omega arith
bit_place (suc m) r (suc i) h o = omega (arith, bit_place m (r / 2) i (half_lt m h) o)

pub power_fits : (w : ℕ) → w < 32 → (1 * 2 ^ w) % 2 ^ 32 ≡ 2 ^ w
power_fits w h = shl_exact 1 w 32 (omega arith) (omega arith) ∙ omega arith

-- the lowest bit of r that is set
pub low_set : (k r : ℕ) → 0 < r → r < 2 ^ k → bit r (count_trailing_zeros k r) ≡ 1
unfolding bit count_trailing_zeros
low_set zero r p h = absurd (omega arith)
low_set (suc k) r p h = go (λ o. low_set k (r / 2) o (half_lt k h)) (r % 2) refl
  where
    go : (0 < r / 2 → bit (r / 2) (count_trailing_zeros k (r / 2)) ≡ 1) → (d : ℕ) → r % 2 ≡ d → bit r (under d (count_trailing_zeros k (r / 2))) ≡ 1
    go f zero e = f (omega arith)
    go f (suc d) e = omega arith

low_least : (k r i : ℕ) → i < count_trailing_zeros k r → bit r i ≡ 0
unfolding bit count_trailing_zeros
low_least zero r i l = absurd (omega arith)
low_least (suc k) r i l = go (low_least k (r / 2)) (r % 2) refl i l
  where
    go : ((i : ℕ) → i < count_trailing_zeros k (r / 2) → bit (r / 2) i ≡ 0) → (d : ℕ) → r % 2 ≡ d → (i : ℕ) → i < under d (count_trailing_zeros k (r / 2))
        → bit r i ≡ 0
    go f zero e zero l = e
    go f zero e (suc i) l = f i (omega arith)
    go f (suc d) e i l = absurd (omega arith)

-- r without it
rest_low : (r : ℕ) → 0 < r → bit_and r (r - 1) % 2 ≡ 0
rest_low r p = omega (arith, and_step r (r - 1))

rest_odd : (r : ℕ) → r % 2 ≡ 1 → bit_and r (r - 1) / 2 ≡ r / 2
rest_odd r e =
    let z : (r - 1) / 2 ≡ r / 2 = omega arith in omega (arith, and_step r (r - 1), ap (λ y. bit_and (r / 2) y) z, and_self (r / 2))

rest_even : (r : ℕ) → 0 < r → r % 2 ≡ 0 → bit_and r (r - 1) / 2 ≡ bit_and (r / 2) (r / 2 - 1)
rest_even r p e = let z : (r - 1) / 2 ≡ r / 2 - 1 = omega arith in omega (arith, and_step r (r - 1), ap (λ y. bit_and (r / 2) y) z)

pub rest_same : (k r : ℕ) → 0 < r → r < 2 ^ k → bit (bit_and r (r - 1)) (count_trailing_zeros k r) ≡ 0
unfolding bit count_trailing_zeros
rest_same zero r p h = absurd (omega arith)
rest_same (suc k) r p h = go (λ o. rest_same k (r / 2) o (half_lt k h)) (r % 2) refl
  where
    go : (0 < r / 2 → bit (bit_and (r / 2) (r / 2 - 1)) (count_trailing_zeros k (r / 2)) ≡ 0) → (d : ℕ) → r % 2 ≡ d
        → bit (bit_and r (r - 1)) (under d (count_trailing_zeros k (r / 2))) ≡ 0
    go f zero e = ap (λ y. bit y (count_trailing_zeros k (r / 2))) (rest_even r p e) ∙ f (omega arith)
    go f (suc d) e = rest_low r p

pub rest_other : (k r i : ℕ) → 0 < r → r < 2 ^ k → i ≢ count_trailing_zeros k r → bit (bit_and r (r - 1)) i ≡ bit r i
unfolding bit count_trailing_zeros
rest_other zero r i p h n = absurd (omega arith)
rest_other (suc k) r i p h n = go (λ i o. rest_other k (r / 2) i o (half_lt k h)) (r % 2) refl i n
  where
    go : ((i : ℕ) → 0 < r / 2 → i ≢ count_trailing_zeros k (r / 2) → bit (bit_and (r / 2) (r / 2 - 1)) i ≡ bit (r / 2) i) → (d : ℕ) → r % 2 ≡ d → (i : ℕ)
        → i ≢ under d (count_trailing_zeros k (r / 2)) → bit (bit_and r (r - 1)) i ≡ bit r i
    go f zero e zero n = rest_low r p ∙ sym e
    go f zero e (suc i) n = ap (λ y. bit y i) (rest_even r p e) ∙ f i (omega arith) (λ z. n (ap suc z))
    go f (suc d) e zero n = absurd (n refl)
    go f (suc d) e (suc i) n = ap (λ y. bit y i) (rest_odd r (omega arith))

-- ---- the bits that are left

pub left_start : {s : ℕ} → Left s s 0
left_start = record { below = λ i l. absurd (omega arith); from = λ i l. refl }

module _ (k : ℕ) {s r lo : ℕ} (q : Left s r lo) (p : 0 < r) (h : r < 2 ^ k) where
  pub left_low : lo ≤ count_trailing_zeros k r
  left_low = elim (dec_lt (count_trailing_zeros k r) lo) [
    | yes l ↦ absurd (omega (arith, q.below (count_trailing_zeros k r) l, low_set k r p h))
    | no l ↦ omega arith
  ]

  pub left_set : bit s (count_trailing_zeros k r) ≡ 1
  left_set = sym (q.from (count_trailing_zeros k r) left_low) ∙ low_set k r p h

  pub left_none : (i : ℕ) → lo ≤ i → i < count_trailing_zeros k r → bit s i ≡ 0
  left_none i l u = sym (q.from i l) ∙ low_least k r i u

  pub left_next : Left s (bit_and r (r - 1)) (count_trailing_zeros k r + 1)
  left_next = record {
    below = λ i l. elim (ℕ_discrete i (count_trailing_zeros k r)) [
      | yes z ↦ rw z (rest_same k r p h)
      | no z ↦ rest_other k r i p h z ∙ low_least k r i (omega arith)
    ];
    from = λ i l. rest_other k r i p h (omega arith) ∙ q.from i (omega (arith, left_low));
  }

pub left_end : {s r lo : ℕ} → Left s r lo → r ≤ 0 → (i : ℕ) → lo ≤ i → bit s i ≡ 0
left_end {s} {r} q h i l = let z : r ≡ 0 = omega arith in sym (q.from i l) ∙ ap (λ y. bit y i) z ∙ bit_none i
