-- Numbers that are not above a limit, one more and sixteen more. Assumes nothing.
use mathlib.Core.Path.{◌≡◌}
use mathlib.Core.List.{List}
use Prim.Native.Nat.{ℕ, ◌+◌, ◌-◌, ◌≤◌, ◌<◌}
use native.Mathlib.Decide.{ℕ_discrete, dec_lt}
use native.Mathlib.Omega.{arith}
use lib.Bits.{bit_or, or_add_and, and_le_l, and_le_r}
use lib.ListN.{get_or}
use Rattle.validation.specs.inner.Above.{NoneAbove}

pub above_start : {s : List ℕ} {k limit : ℕ} → NoneAbove s k 0 limit
above_start = record { each = λ j h. absurd (omega arith) }

-- one number more, under a limit that is no lower
pub above_more : {s : List ℕ} {k i limit : ℕ} (limit' : ℕ) → NoneAbove s k i limit → limit ≤ limit' → get_or s (k + i) 0 ≤ limit' → NoneAbove s k (i + 1) limit'
above_more {s} {k} {i} limit' q l h = record { each = λ j w. elim (ℕ_discrete j i) [ yes z ↦ rw z h | no z ↦ omega (arith, q.each j (omega arith)) ] }

-- a number with the bits of two is not below either
pub above_bits : {s : List ℕ} {k i all : ℕ} → NoneAbove s k i all → NoneAbove s k (i + 1) (bit_or all (get_or s (k + i) 0))
above_bits {s} {k} {i} {all} q =
    let x = get_or s (k + i) 0 in
    above_more (bit_or all x) q (omega (arith, or_add_and all x, and_le_r all x)) (omega (arith, or_add_and all x, and_le_l all x))

pub above_lower : {s : List ℕ} {k count limit limit' : ℕ} → NoneAbove s k count limit → limit ≤ limit' → NoneAbove s k count limit'
above_lower q l = record { each = λ j h. omega (arith, q.each j h) }

-- none of the numbers before k is above the limit, and none of the next
pub above_joined : {s : List ℕ} {k count limit : ℕ} → ((j : ℕ) → j < k → get_or s j 0 ≤ limit) → NoneAbove s k count limit
    → (j : ℕ) → j < k + count → get_or s j 0 ≤ limit
above_joined {s} {k} {count} {limit} before q j h = elim (dec_lt j k) [
  | yes z ↦ before j z
  | no z ↦ let e : k + (j - k) ≡ j = omega arith in rw e at (q.each (j - k) (omega arith))
]
