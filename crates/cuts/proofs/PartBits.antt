-- The bits of a part. Assumes nothing.
use mathlib.Core.Path.{◌≡◌, refl, sym, ap, ◌∙◌}
use mathlib.Core.Logic.{◌≢◌}
use Prim.Native.Nat.{ℕ, zero, suc, min, ◌+◌, ◌-◌, ◌*◌, ◌/◌, ◌%◌, ◌^◌, ◌≤◌, ◌<◌}
use native.Mathlib.Nat.{pow-suc, pow-succ', div-one, div-div-eq-div-mul}
use native.Mathlib.Decide.{ℕ_discrete}
use native.Mathlib.Omega.{arith}
use lib.Bits.{bit_and, bit_xor, differ, and_step, xor_step, and_le_l, and_le_r, xor_shifted, xor_comm}
use lib.Count.{count_trailing_zeros}
use lib.Pow.{ones_lt, pow_pos, pow_mono, shl_exact, shr-shr}
use Rattle.residual.specs.inner.Bits.{bit}
use Rattle.residual.proofs.Bits.{bit_most, bit_place, low_set, rest_same, rest_other}
use Rattle.cuts.specs.inner.Cut.{Others}

-- as the code reads it
pub bit_shift : (r k : ℕ) → bit r k ≡ (r / 2 ^ k) % 2
unfolding bit
bit_shift r zero = ap (λ (x : ℕ). x % 2) (sym (div-one r))
bit_shift r (suc k) =
    bit_shift (r / 2) k
    ∙ ap (λ (x : ℕ). x % 2) (div-div-eq-div-mul r 2 (2 ^ k) ∙ ap (λ (x : ℕ). r / x) (sym (pow-succ' 2 k)))

pub bit_in : (r k : ℕ) → (r / 2 ^ k) % 2 ≡ 1 → bit r k ≡ 1
bit_in r k e = bit_shift r k ∙ e

-- two words without a bit in common
pub apart : (a b i : ℕ) → bit_and a b ≡ 0 → bit a i ≡ 1 → bit b i ≡ 0
unfolding bit
apart a b zero e h = omega (arith, and_step a b)
apart a b (suc i) e h = apart (a / 2) (b / 2) i (omega (arith, and_step a b)) h

pub bit_least : (i r : ℕ) → bit r i ≡ 1 → 2 ^ i ≤ r
unfolding bit
bit_least zero r e = omega arith
bit_least (suc i) r e = omega (arith, pow-suc 2 i, bit_least i (r / 2) e)

-- a bit that is taken away leaves the others
pub bit_drop : (i r k : ℕ) → bit r i ≡ 1 → k ≢ i → bit (r - 2 ^ i) k ≡ bit r k
unfolding bit
bit_drop zero r zero e z = absurd (z refl)
bit_drop zero r (suc k) e z = let f : (r - 1) / 2 ≡ r / 2 = omega arith in ap (λ y. bit y k) f
bit_drop (suc i) r zero e z = omega (arith, pow-suc 2 i, bit_least (suc i) r e)
bit_drop (suc i) r (suc k) e z =
    let f : (r - 2 ^ suc i) / 2 ≡ r / 2 - 2 ^ i = omega (arith, pow-suc 2 i) in
    ap (λ y. bit y k) f ∙ bit_drop i (r / 2) k e (λ q. z (ap suc q))

-- ---- the bits outside a part

pub bit_and_lem : (a b i : ℕ) → bit (bit_and a b) i ≡ min (bit a i) (bit b i)
unfolding bit
bit_and_lem a b zero = omega (arith, and_step a b)
bit_and_lem a b (suc i) = let e : bit_and a b / 2 ≡ bit_and (a / 2) (b / 2) = omega (arith, and_step a b) in rw e (bit_and_lem (a / 2) (b / 2) i)

differ_digit : (x y : ℕ) → x < 2 → y < 2 → differ x y < 2
differ_digit zero y h l = l
differ_digit (suc zero) zero h l = omega arith
differ_digit (suc zero) (suc zero) h l = omega arith
differ_digit (suc zero) (suc (suc y)) h l = absurd (omega arith)
differ_digit (suc (suc x)) y h l = absurd (omega arith)

bit_xor_lem : (a b i : ℕ) → bit (bit_xor a b) i ≡ differ (bit a i) (bit b i)
unfolding bit
bit_xor_lem a b zero = omega (arith, xor_step a b, differ_digit (a % 2) (b % 2) (omega arith) (omega arith))
bit_xor_lem a b (suc i) =
    let e : bit_xor a b / 2 ≡ bit_xor (a / 2) (b / 2) = omega (arith, xor_step a b, differ_digit (a % 2) (b % 2) (omega arith) (omega arith)) in
    ap (λ y. bit y i) e ∙ bit_xor_lem (a / 2) (b / 2) i

-- the bits below n
bit_ones : (n k : ℕ) → k < n → bit (2 ^ n - 1) k ≡ 1
unfolding bit
bit_ones zero k h = absurd (omega arith)
bit_ones (suc n) zero h = omega (arith, pow-suc 2 n, pow_pos n)
bit_ones (suc n) (suc k) h = let e : (2 ^ suc n - 1) / 2 ≡ 2 ^ n - 1 = omega (arith, pow-suc 2 n) in ap (λ y. bit y k) e ∙ bit_ones n k (omega arith)

pub others : {n all : ℕ} (part : ℕ) → all ≡ 2 ^ n - 1 → Others n part (bit_and all (bit_xor all part))
others {n} {all} part e = record {
  out = λ k h z.
      let o : bit all k ≡ 1 = ap (λ y. bit y k) e ∙ bit_ones n k h in
      omega (arith, bit_and_lem all (bit_xor all part) k, bit_xor_lem all part k ∙ ap (λ (x : ℕ). differ x (bit part k)) o ∙ ap (λ (y : ℕ). differ 1 y) z);
  only = λ k z. elim (ℕ_discrete (bit all k) 1) [
    | yes o ↦ omega (arith, bit_and_lem all (bit_xor all part) k, bit_xor_lem all part k ∙ ap (λ (x : ℕ). differ x (bit part k)) o ∙ ap (λ (y : ℕ). differ 1 y) z)
    | no o ↦ omega (arith, bit_and_lem all (bit_xor all part) k, bit_most all k)
  ];
  within = omega (arith, and_le_l all (bit_xor all part), ones_lt n);
}

pub word_power : (k : ℕ) → k < 64 → (1 * 2 ^ k) % 2 ^ 64 ≡ 2 ^ k
word_power k h = shl_exact 1 k 64 (omega arith) (omega arith) ∙ omega arith

pub word_fits : {k r : ℕ} → k ≤ 64 → r < 2 ^ k → r < 2 ^ 64
word_fits h l = omega (arith, pow_mono h)

-- ---- order

-- numbers below 2 ^ 31, as signed numbers are compared
pub sign_up : (a : ℕ) → a < 2147483648 → bit_xor a 2147483648 ≡ 2147483648 + a
sign_up a h = xor_comm a 2147483648 ∙ xor_shifted 1 31 a h

-- ---- a loop over the bits of a word, of which r are left

module _ (k : ℕ) {r : ℕ} (p : 0 < r) (h : r < 2 ^ k) where
  pub low_place : (n : ℕ) → r < 2 ^ n → count_trailing_zeros k r < n
  low_place n l = bit_place n r (count_trailing_zeros k r) l (low_set k r p h)

  -- a bit that is left no more is the lowest one, or was not left before
  pub rest_done : (i : ℕ) → bit (bit_and r (r - 1)) i ≡ 0 → i ≢ count_trailing_zeros k r → bit r i ≡ 0
  rest_done i e z = sym (rest_other k r i p h z) ∙ e

pub rest_less : {r : ℕ} → 0 < r → bit_and r (r - 1) < r
rest_less {r} p = omega (arith, and_le_r r (r - 1))

-- what is left of a part
module _ (k part : ℕ) {r : ℕ} (own : (i : ℕ) → bit r i ≤ bit part i) (p : 0 < r) (h : r < 2 ^ k) where
  pub own_low : bit part (count_trailing_zeros k r) ≡ 1
  own_low = omega (arith, own (count_trailing_zeros k r), low_set k r p h, bit_most part (count_trailing_zeros k r))

  pub own_next : (i : ℕ) → bit (bit_and r (r - 1)) i ≤ bit part i
  own_next i = elim (ℕ_discrete i (count_trailing_zeros k r)) [
    | yes z ↦ rw z (omega (arith, rest_same k r p h))
    | no z ↦ omega (arith, rest_other k r i p h z, own i)
  ]

-- ---- the halves of a word

pub low_half : (r i : ℕ) → i < 32 → bit (bit_and r 4294967295) i ≡ bit r i
low_half r i h = omega (arith, bit_and_lem r 4294967295 i, bit_ones 32 i h, bit_most r i)

pub low_half_fits : (r : ℕ) → bit_and r 4294967295 < 2 ^ 32
low_half_fits r = omega (arith, and_le_r r 4294967295)

pub high_half : (r i : ℕ) → bit (r / 2 ^ 32) i ≡ bit r (32 + i)
high_half r i = bit_shift (r / 2 ^ 32) i ∙ ap (λ (x : ℕ). x % 2) (shr-shr r 32 i) ∙ sym (bit_shift r (32 + i))

pub high_half_fits : (r : ℕ) → r < 2 ^ 64 → r / 2 ^ 32 < 2 ^ 32
high_half_fits r h = omega arith
