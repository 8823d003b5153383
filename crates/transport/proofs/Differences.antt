-- Each integer is a difference of two naturals, and what is said of differences is said of naturals. Assumes nothing.
use mathlib.Core.Path.{◌≡◌, sym, ap, ap₂, ◌∙◌, subst, subst₂}
use mathlib.Core.Bool.{Bool, true, false, not, cond}
use Prim.Native.Nat.{ℕ, zero, suc, ◌+◌, ◌*◌, ◌-◌, ◌≤◌, ◌<◌}
use native.Mathlib.Omega.{arith}
use native.Mathlib.Decide.{dec_lt}
use lib.Dec.{T, ltb, leb, ltb→lt, nltb→le, lt→ltb, le→leb, leb→le}
use lib.IntN.{ℤ, pos, negsuc, neg_ℤ, sub_ℕ, ◌+ℤ◌, ◌-ℤ◌, ◌*ℤ◌}
use lib.Signed.{lt_z, le_z, ◌≤ℤ◌, ◌<ℤ◌, le_z_yes, lt_z_yes}
use borrow.Author.Tests.{lt-ltb, le-ltb, le-leb, lt-leb}

-- a difference by its sign
pub by_sign : (P : ℤ → Type 0) (a b : ℕ) → (a < b → P (negsuc (b - suc a))) → (b ≤ a → P (pos (a - b))) → P (sub_ℕ a b)
by_sign P a b f g = step (ltb a b) (ltb→lt a b) (nltb→le a b)
  where
    step : (t : Bool) → (T t → a < b) → (T (not t) → b ≤ a) → P (cond t (negsuc (b - suc a)) (pos (a - b)))
    step true h k = f (h tt)
    step false h k = g (k tt)

pub sub_neg : (a b k : ℕ) → a + suc k ≡ b → sub_ℕ a b ≡ negsuc k
sub_neg a b k e = by_sign (λ z. z ≡ negsuc k) a b (λ h. ap negsuc (let q : b - suc a ≡ k = omega arith in q)) (λ h. absurd (omega arith))

pub sub_pos : (a b k : ℕ) → a ≡ b + k → sub_ℕ a b ≡ pos k
sub_pos a b k e = by_sign (λ z. z ≡ pos k) a b (λ h. absurd (omega arith)) (λ h. ap pos (let q : a - b ≡ k = omega arith in q))

-- equal differences
pub sub_same : (a b c d : ℕ) → a + d ≡ c + b → sub_ℕ a b ≡ sub_ℕ c d
sub_same a b c d e = by_sign (λ z. z ≡ sub_ℕ c d) a b (λ h. sym (sub_neg c d (b - suc a) (omega arith))) (λ h. sym (sub_pos c d (a - b) (omega arith)))

-- each integer is a difference
pub pos_sub : (n : ℕ) → pos n ≡ sub_ℕ n 0
pos_sub n = sym (sub_pos n 0 n (omega arith))

pub neg_sub : (n : ℕ) → negsuc n ≡ sub_ℕ 0 (suc n)
neg_sub n = sym (sub_neg 0 (suc n) n (omega arith))

-- sums, differences, multiples
pub sub_add : (a b c d : ℕ) → sub_ℕ a b +ℤ sub_ℕ c d ≡ sub_ℕ (a + c) (b + d)
sub_add a b c d =
    by_sign (λ z. z +ℤ sub_ℕ c d ≡ sub_ℕ (a + c) (b + d)) a b
    (λ h. by_sign (λ w. negsuc (b - suc a) +ℤ w ≡ sub_ℕ (a + c) (b + d)) c d
    (λ k. sym (sub_neg (a + c) (b + d) (suc (b - suc a + (d - suc c))) (omega arith)))
    (λ k. sub_same (c - d) (suc (b - suc a)) (a + c) (b + d) (omega arith)))
    (λ h. by_sign (λ w. pos (a - b) +ℤ w ≡ sub_ℕ (a + c) (b + d)) c d
    (λ k. sub_same (a - b) (suc (d - suc c)) (a + c) (b + d) (omega arith))
    (λ k. sym (sub_pos (a + c) (b + d) (a - b + (c - d)) (omega arith))))

pub sub_negate : (a b : ℕ) → neg_ℤ (sub_ℕ a b) ≡ sub_ℕ b a
sub_negate a b = by_sign (λ z. neg_ℤ z ≡ sub_ℕ b a) a b (λ h. sym (sub_pos b a (suc (b - suc a)) (omega arith))) (λ h. back (a - b) (omega arith))
  where
    back : (k : ℕ) → a ≡ b + k → neg_ℤ (pos k) ≡ sub_ℕ b a
    back zero e = sym (sub_pos b a 0 (omega arith))
    back (suc k) e = sym (sub_neg b a k (omega arith))

pub sub_sub : (a b c d : ℕ) → sub_ℕ a b -ℤ sub_ℕ c d ≡ sub_ℕ (a + d) (b + c)
sub_sub a b c d = ap (λ (z : ℤ). sub_ℕ a b +ℤ z) (sub_negate c d) ∙ sub_add a b d c

neg_of : (n : ℕ) → neg_ℤ (pos n) ≡ sub_ℕ 0 n
neg_of n = ap neg_ℤ (pos_sub n) ∙ sub_negate n 0

pub sub_scale : (a b k : ℕ) → sub_ℕ a b *ℤ pos k ≡ sub_ℕ (a * k) (b * k)
sub_scale a b k =
    by_sign (λ z. z *ℤ pos k ≡ sub_ℕ (a * k) (b * k)) a b
    (λ h. neg_of (suc (b - suc a) * k) ∙ sub_same 0 (suc (b - suc a) * k) (a * k) (b * k) (below (suc (b - suc a)) (omega arith)))
    (λ h. sym (sub_pos (a * k) (b * k) ((a - b) * k) (above (a - b) (omega arith))))
  where
    below : (e : ℕ) → b ≡ a + e → 0 + b * k ≡ a * k + e * k
    below e q = rw q (omega arith)

    above : (e : ℕ) → a ≡ b + e → a * k ≡ b * k + e * k
    above e q = rw q (omega arith)

-- the tests
pub sub_lt : (a b c d : ℕ) → lt_z (sub_ℕ a b) (sub_ℕ c d) ≡ ltb (a + d) (c + b)
sub_lt a b c d =
    by_sign (λ z. lt_z z (sub_ℕ c d) ≡ ltb (a + d) (c + b)) a b
    (λ h. by_sign (λ w. lt_z (negsuc (b - suc a)) w ≡ ltb (a + d) (c + b)) c d
    (λ k. same_lt (d - suc c) (b - suc a) (a + d) (c + b) (λ l. omega arith) (λ l. omega arith))
    (λ k. sym (lt-ltb (a + d) (c + b) (omega arith))))
    (λ h. by_sign (λ w. lt_z (pos (a - b)) w ≡ ltb (a + d) (c + b)) c d
    (λ k. sym (le-ltb (a + d) (c + b) (omega arith)))
    (λ k. same_lt (a - b) (c - d) (a + d) (c + b) (λ l. omega arith) (λ l. omega arith)))
  where
    same_lt : (p q r s : ℕ) → (p < q → r < s) → (q ≤ p → s ≤ r) → ltb p q ≡ ltb r s
    same_lt p q r s f g = elim (dec_lt p q) [ yes l ↦ lt-ltb p q l ∙ sym (lt-ltb r s (f l)) | no l ↦ le-ltb p q (omega arith) ∙ sym (le-ltb r s (g (omega arith))) ]

pub sub_le : (a b c d : ℕ) → le_z (sub_ℕ a b) (sub_ℕ c d) ≡ leb (a + d) (c + b)
sub_le a b c d =
    by_sign (λ z. le_z z (sub_ℕ c d) ≡ leb (a + d) (c + b)) a b
    (λ h. by_sign (λ w. le_z (negsuc (b - suc a)) w ≡ leb (a + d) (c + b)) c d
    (λ k. same_le (d - suc c) (b - suc a) (a + d) (c + b) (λ l. omega arith) (λ l. omega arith))
    (λ k. sym (le-leb (a + d) (c + b) (omega arith))))
    (λ h. by_sign (λ w. le_z (pos (a - b)) w ≡ leb (a + d) (c + b)) c d
    (λ k. sym (lt-leb (a + d) (c + b) (omega arith)))
    (λ k. same_le (a - b) (c - d) (a + d) (c + b) (λ l. omega arith) (λ l. omega arith)))
  where
    same_le : (p q r s : ℕ) → (p ≤ q → r ≤ s) → (q < p → s < r) → leb p q ≡ leb r s
    same_le p q r s f g = elim (dec_lt q p) [ yes l ↦ lt-leb p q l ∙ sym (lt-leb r s (g l)) | no l ↦ le-leb p q (omega arith) ∙ sym (le-leb r s (f (omega arith))) ]

-- the order
pub sub_at_most : (a b c d : ℕ) → a + d ≤ c + b → sub_ℕ a b ≤ℤ sub_ℕ c d
sub_at_most a b c d h = le_z_yes (subst T (sym (sub_le a b c d)) (le→leb (a + d) (c + b) h))

pub sub_below : (a b c d : ℕ) → a + d < c + b → sub_ℕ a b <ℤ sub_ℕ c d
sub_below a b c d h = lt_z_yes (subst T (sym (sub_lt a b c d)) (lt→ltb (a + d) (c + b) h))

pub at_most_sub : (a b c d : ℕ) → sub_ℕ a b ≤ℤ sub_ℕ c d → a + d ≤ c + b
at_most_sub a b c d h = leb→le (a + d) (c + b) (subst T (sub_le a b c d) h.le)

-- ---- the same of two naturals and `-ℤ`

pub diff_sub : (a b : ℕ) → pos a -ℤ pos b ≡ sub_ℕ a b
diff_sub a b = ap₂ ◌-ℤ◌ (pos_sub a) (pos_sub b) ∙ sub_sub a 0 b 0 ∙ sub_same (a + 0) (0 + b) a b (omega arith)

pub diff_same : (a b c d : ℕ) → a + d ≡ c + b → pos a -ℤ pos b ≡ pos c -ℤ pos d
diff_same a b c d e = diff_sub a b ∙ sub_same a b c d e ∙ sym (diff_sub c d)

pub diff_at_most : (a b c d : ℕ) → a + d ≤ c + b → (pos a -ℤ pos b) ≤ℤ (pos c -ℤ pos d)
diff_at_most a b c d h = subst₂ ◌≤ℤ◌ (sym (diff_sub a b)) (sym (diff_sub c d)) (sub_at_most a b c d h)

-- what is added to a difference, and what is taken off it
pub add_diff : (c a b : ℕ) → pos c +ℤ (pos a -ℤ pos b) ≡ pos (c + a) -ℤ pos b
add_diff c a b =
    ap₂ ◌+ℤ◌ (pos_sub c) (diff_sub a b) ∙ sub_add c 0 a b ∙ sub_same (c + a) (0 + b) (c + a) b (omega arith) ∙ sym (diff_sub (c + a) b)

pub take_diff : (c a b : ℕ) → neg_ℤ (pos c) +ℤ (pos a -ℤ pos b) ≡ pos a -ℤ pos (b + c)
take_diff c a b =
    ap₂ ◌+ℤ◌ (neg_of c) (diff_sub a b) ∙ sub_add 0 c a b ∙ sub_same (0 + a) (c + b) a (b + c) (omega arith) ∙ sym (diff_sub a (b + c))

-- a sum moved to one side
pub shift : (a b c d : ℕ) → a + c ≡ b + d → pos a ≡ pos b +ℤ (pos d -ℤ pos c)
shift a b c d e = pos_sub a ∙ sub_same a 0 (b + d) c (omega arith) ∙ sym (diff_sub (b + d) c) ∙ sym (add_diff b d c)
