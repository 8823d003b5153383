-- The bits of masks: what two have in common, all of them, one taken out. Assumes nothing.
use mathlib.Core.Path.{◌≡◌, refl, sym, ap, ◌∙◌}
use mathlib.Core.Logic.{◌≢◌}
use Prim.Native.Nat.{ℕ, zero, suc, min, ◌-◌, ◌*◌, ◌/◌, ◌%◌, ◌^◌, ◌≤◌, ◌<◌}
use native.Mathlib.Nat.{pow-suc}
use native.Mathlib.Decide.{ℕ_discrete}
use native.Mathlib.Omega.{arith}
use lib.Pow.{pow_pos, shl_exact}
use lib.Bits.{bit_and, and_step}
use lib.Count.{count_leading_zeros, leading_top}
use Rattle.residual.specs.inner.Bits.{bit}
use Rattle.residual.proofs.Bits.{bit_none, power_fits}

pub bit_and_lem : (a b i : ℕ) → bit (bit_and a b) i ≡ min (bit a i) (bit b i)
unfolding bit
bit_and_lem a b zero = omega (arith, and_step a b)
bit_and_lem a b (suc i) = let e : bit_and a b / 2 ≡ bit_and (a / 2) (b / 2) = omega (arith, and_step a b) in rw e (bit_and_lem (a / 2) (b / 2) i)

pub power_fits_long : (w : ℕ) → w < 64 → (1 * 2 ^ w) % 2 ^ 64 ≡ 2 ^ w
power_fits_long w h = shl_exact 1 w 64 (omega arith) (omega arith) ∙ omega arith

-- every bit below k
pub bit_ones : (k i : ℕ) → i < k → bit (2 ^ k - 1) i ≡ 1
unfolding bit
bit_ones zero i l = absurd (omega arith)
bit_ones (suc k) zero l = omega (arith, pow-suc 2 k, pow_pos k)
bit_ones (suc k) (suc i) l =
    let e : (2 ^ suc k - 1) / 2 ≡ 2 ^ k - 1 = omega (arith, pow-suc 2 k, pow_pos k) in rw e (bit_ones k i (omega arith))

pub bit_power : (w i : ℕ) → i ≢ w → bit (2 ^ w) i ≡ 0
unfolding bit
bit_power zero zero z = absurd (z refl)
bit_power zero (suc i) z = bit_none i
bit_power (suc w) zero z = omega (arith, pow-suc 2 w)
bit_power (suc w) (suc i) z =
    let e : 2 ^ suc w / 2 ≡ 2 ^ w = omega (arith, pow-suc 2 w) in rw e (bit_power w i (λ y. z (ap suc y)))

-- one bit is taken out
pub take_fits : (w r : ℕ) → bit r w ≡ 1 → 2 ^ w ≤ r
unfolding bit
take_fits zero r h = omega arith
take_fits (suc w) r h = omega (arith, take_fits w (r / 2) h, pow-suc 2 w)

take_half : (w r : ℕ) → 2 ^ w ≤ r / 2 → (r - 2 ^ suc w) / 2 ≡ r / 2 - 2 ^ w
take_half w r h = omega (arith, pow-suc 2 w)

pub take_own : (w r : ℕ) → bit r w ≡ 1 → bit (r - 2 ^ w) w ≡ 0
unfolding bit
take_own zero r h = omega arith
take_own (suc w) r h = ap (λ y. bit y w) (take_half w r (take_fits w (r / 2) h)) ∙ take_own w (r / 2) h

pub take_other : (w r i : ℕ) → bit r w ≡ 1 → i ≢ w → bit (r - 2 ^ w) i ≡ bit r i
unfolding bit
take_other zero r zero h z = absurd (z refl)
take_other zero r (suc i) h z = let e : (r - 1) / 2 ≡ r / 2 = omega arith in ap (λ y. bit y i) e
take_other (suc w) r zero h z = omega (arith, pow-suc 2 w, take_fits w (r / 2) h)
take_other (suc w) r (suc i) h z =
    ap (λ y. bit y i) (take_half w r (take_fits w (r / 2) h)) ∙ take_other w (r / 2) i h (λ y. z (ap suc y))

-- a bit of what is left is one of before
pub take_less : (w r i : ℕ) → bit r w ≡ 1 → bit (r - 2 ^ w) i ≡ 1 → (i ≢ w) × (bit r i ≡ 1)
take_less w r i h e = elim (ℕ_discrete i w) [
  | yes z ↦ absurd (omega (arith, take_own w r h, ap (λ y. bit (r - 2 ^ w) y) z))
  | no z ↦ (z, sym (take_other w r i h z) ∙ e)
]

-- one that is not there is gone or is the one taken
pub take_gone : (w r i : ℕ) → bit r w ≡ 1 → i ≢ w → bit (r - 2 ^ w) i ≡ 0 → bit r i ≡ 0
take_gone w r i h z e = sym (take_other w r i h z) ∙ e

pub take_kept : (w r i : ℕ) → bit r w ≡ 1 → bit r i ≡ 0 → bit (r - 2 ^ w) i ≡ 0
take_kept w r i h e = elim (ℕ_discrete i w) [
  | yes z ↦ absurd (omega (arith, ap (λ y. bit r y) z))
  | no z ↦ take_other w r i h z ∙ e
]

-- the highest bit
bit_top : (j r : ℕ) → 2 ^ j ≤ r → r < 2 ^ suc j → bit r j ≡ 1
unfolding bit
bit_top zero r l h = omega arith
bit_top (suc j) r l h = bit_top j (r / 2) (omega (arith, pow-suc 2 j)) (omega (arith, pow-suc 2 (suc j)))

pub high_set : (k r : ℕ) → 0 < r → r < 2 ^ k → bit r (k - 1 - count_leading_zeros k r) ≡ 1
high_set k r p h =
    let t = leading_top k r p h in
    let e : k - 1 - count_leading_zeros k r ≡ t.0 = omega (arith, t.1) in
    ap (λ y. bit r y) e ∙ bit_top t.0 r t.2 t.3

pub high_fits : (k r : ℕ) → 0 < r → r < 2 ^ k → count_leading_zeros k r < k
high_fits k r p h = let t = leading_top k r p h in omega (arith, t.1)

-- no bit of a word but one is set
pub none_but : (w r : ℕ) → w < 32 → bit_and r (2 ^ 32 - 1 - (1 * 2 ^ w) % 2 ^ 32) ≡ 0 → (i : ℕ) → i < 32 → i ≢ w → bit r i ≡ 0
none_but w r h e i l z =
    let p : (1 * 2 ^ w) % 2 ^ 32 ≡ 2 ^ w = power_fits w h in
    let y : bit_and r (2 ^ 32 - 1 - 2 ^ w) ≡ 0 = ap (λ v. bit_and r (2 ^ 32 - 1 - v)) (sym p) ∙ e in
    omega (arith, ap (λ v. bit v i) y, bit_none i, bit_and_lem r (2 ^ 32 - 1 - 2 ^ w) i, take_other w (2 ^ 32 - 1) i (bit_ones 32 w h) z, bit_ones 32 i l)

-- two words have no bit in common
pub none_common : (a b i : ℕ) → bit_and a b ≡ 0 → bit b i ≡ 1 → bit a i ≡ 0
none_common a b i e h = omega (arith, ap (λ v. bit v i) e, bit_none i, bit_and_lem a b i)
