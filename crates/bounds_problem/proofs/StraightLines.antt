-- A curve that bends nowhere strictly between p and q is straight from p to q. Assumes nothing.
use mathlib.Core.Path.{◌≡◌, sym, ap, ◌∙◌}
use Prim.Native.Nat.{ℕ, zero, suc, ◌+◌, ◌*◌, ◌≤◌, ◌<◌}
use native.Mathlib.Nat.{suc-mul, mul_comm, mul_assoc, mul-add, add-mul}
use native.Mathlib.Omega.{arith}

-- the slope does not change at p + 1, .., p + n - 1
abbrev pub Straight : (ℕ → ℕ) → ℕ → ℕ → Type 0
Straight g p n = (j : ℕ) → suc j < n → g (p + suc (suc j)) + g (p + j) ≡ 2 * g (p + suc j)

module _ (g : ℕ → ℕ) (p n : ℕ) (s : Straight g p n) where
  -- each step adds what the first does
  step : (j : ℕ) → j < n → g (p + suc j) + g (p + 0) ≡ g (p + j) + g (p + 1)
  step zero h = omega arith
  step (suc j) h = omega (arith, step j (omega arith), s j h)

  -- j steps
  walk : (j : ℕ) → j ≤ n → g (p + j) + j * g (p + 0) ≡ g (p + 0) + j * g (p + 1)
  walk zero h = omega arith
  walk (suc j) h = omega (arith, walk j (omega arith), step j h, suc-mul j (g (p + 0)), suc-mul j (g (p + 1)))

  -- where j of the n steps are done and i are left
  pub line : (i j : ℕ) → i + j ≡ n → n * g (p + j) ≡ i * g (p + 0) + j * g (p + n)
  line i j e = weigh i j (g (p + 0)) (g (p + 1)) (g (p + j)) (g (p + n)) n e (walk j (omega arith)) (walk n (omega arith))
    where
      weigh : (i j a d v w n : ℕ) → i + j ≡ n → v + j * a ≡ a + j * d → w + n * a ≡ a + n * d → n * v ≡ i * a + j * w
      weigh i j a d v w n e hv hw =
          let h1 : n * v + n * (j * a) ≡ n * a + n * (j * d) = sym (mul-add n v (j * a)) ∙ ap (λ (k : ℕ). n * k) hv ∙ mul-add n a (j * d) in
          let h2 : j * w + j * (n * a) ≡ j * a + j * (n * d) = sym (mul-add j w (n * a)) ∙ ap (λ (k : ℕ). j * k) hw ∙ mul-add j a (n * d) in
          let s1 : n * (j * a) ≡ j * (n * a) = sym (mul_assoc n j a) ∙ ap (λ (k : ℕ). k * a) (mul_comm n j) ∙ mul_assoc j n a in
          let s2 : n * (j * d) ≡ j * (n * d) = sym (mul_assoc n j d) ∙ ap (λ (k : ℕ). k * d) (mul_comm n j) ∙ mul_assoc j n d in
          let s3 : n * a ≡ i * a + j * a = ap (λ (k : ℕ). k * a) (sym e) ∙ add-mul i j a in
          omega arith
