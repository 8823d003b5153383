-- The order of the integers, the smaller of two, and the least over a range. Assumes nothing.
use mathlib.Core.Path.{◌≡◌, refl, sym, ap₂, ◌∙◌, subst, subst₂}
use mathlib.Core.Logic.{inl, inr}
use mathlib.Core.Bool.{Bool, true, false, cond}
use Prim.Native.Nat.{ℕ, zero, suc, ◌+◌, ◌≤◌}
use native.Mathlib.Nat.{le_refl, eq-or-lt_of_le}
use native.Mathlib.Omega.{arith}
use lib.Dec.{T, leb}
use lib.IntN.{ℤ, pos, negsuc, sub_ℕ, ◌+ℤ◌}
use lib.Signed.{le_z, ◌≤ℤ◌, le_z_yes, ≤ℤ_refl}
use borrow.Author.Tests.{leb-false}
use Rattle.problem.specs.Integer.{minℤ}
use Rattle.transport.proofs.Differences.{pos_sub, neg_sub, sub_add, sub_le, sub_at_most, at_most_sub}
use Rattle.bounds_problem.specs.Tables.{least_over}

-- an integer is a difference of two naturals
pub record Difference (z : ℤ) : Type 0 where
  pub more : ℕ
  pub less : ℕ
  pub is : z ≡ sub_ℕ more less

pub difference : (z : ℤ) → Difference z
difference (pos n) = record { more = n; less = 0; is = pos_sub n }
difference (negsuc n) = record { more = 0; less = suc n; is = neg_sub n }

-- the order, as one of naturals
pub as_naturals : {x y : ℤ} (p : Difference x) (q : Difference y) → x ≤ℤ y → p.more + q.less ≤ q.more + p.less
as_naturals p q h = at_most_sub p.more p.less q.more q.less (subst₂ (λ (a b : ℤ). a ≤ℤ b) p.is q.is h)

pub of_naturals : {x y : ℤ} (p : Difference x) (q : Difference y) → p.more + q.less ≤ q.more + p.less → x ≤ℤ y
of_naturals p q h =
    subst₂ (λ (a b : ℤ). a ≤ℤ b) (sym p.is) (sym q.is) (sub_at_most p.more p.less q.more q.less h)

pub ≤ℤ_trans : {x y z : ℤ} → x ≤ℤ y → y ≤ℤ z → x ≤ℤ z
≤ℤ_trans {x} {y} {z} h k =
    let p = difference x in
    let q = difference y in
    let r = difference z in
    of_naturals p r (omega (arith, as_naturals p q h, as_naturals q r k))

-- a natural on top
abbrev on_top : {z : ℤ} (p : Difference z) (m : ℕ) → Difference (z +ℤ pos m)
on_top p m = record {
  more = p.more + m;
  less = p.less + 0;
  is = ap₂ (λ (a b : ℤ). a +ℤ b) p.is (pos_sub m) ∙ sub_add p.more p.less m 0;
}

pub rise : (z : ℤ) (m n : ℕ) → m ≤ n → (z +ℤ pos m) ≤ℤ (z +ℤ pos n)
rise z m n h = let p = difference z in of_naturals (on_top p m) (on_top p n) (omega arith)

-- the test and the order
pub le_z_true : (x y : ℤ) → le_z x y ≡ true → x ≤ℤ y
le_z_true x y e = le_z_yes (subst T (sym e) tt)

pub true_le_z : {x y : ℤ} → x ≤ℤ y → le_z x y ≡ true
true_le_z {x} {y} h = step (le_z x y) h.le
  where
    step : (b : Bool) → T b → b ≡ true
    step true t = refl
    step false t = absurd t

pub le_z_false : (x y : ℤ) → le_z x y ≡ false → y ≤ℤ x
le_z_false x y e =
    let p = difference x in
    let q = difference y in
    let s : leb (p.more + q.less) (q.more + p.less) ≡ false =
    sym (sub_le p.more p.less q.more q.less) ∙ sym (ap₂ (λ (a b : ℤ). le_z a b) p.is q.is) ∙ e in
    of_naturals q p (omega (arith, leb-false (p.more + q.less) (q.more + p.less) s))

-- ---- the smaller of two

pub min_left : (a b : ℤ) → minℤ a b ≤ℤ a
unfolding minℤ
min_left a b = step (le_z a b) refl
  where
    step : (t : Bool) → le_z a b ≡ t → cond t a b ≤ℤ a
    step true e = ≤ℤ_refl a
    step false e = le_z_false a b e

pub min_right : (a b : ℤ) → minℤ a b ≤ℤ b
unfolding minℤ
min_right a b = step (le_z a b) refl
  where
    step : (t : Bool) → le_z a b ≡ t → cond t a b ≤ℤ b
    step true e = le_z_true a b e
    step false e = ≤ℤ_refl b

pub under_min : (v a b : ℤ) → v ≤ℤ a → v ≤ℤ b → v ≤ℤ minℤ a b
unfolding minℤ
under_min v a b h k = step (le_z a b)
  where
    step : (t : Bool) → v ≤ℤ cond t a b
    step true = h
    step false = k

-- ---- the least over a range

module _ (h : ℕ → ℤ) (i : ℕ) where
  -- it is at most each
  pub least_low : (k z : ℕ) → i ≤ z → z ≤ i + k → least_over h i k ≤ℤ h z
  unfolding least_over
  least_low zero z a b = subst (λ (w : ℕ). h i ≤ℤ h w) (omega arith) (≤ℤ_refl (h i))
  least_low (suc k) z a b = elim (eq-or-lt_of_le b) [
    | inl e ↦ subst (λ (w : ℕ). minℤ (least_over h i k) (h (i + suc k)) ≤ℤ h w) (sym e) (min_right (least_over h i k) (h (i + suc k)))
    | inr l ↦ ≤ℤ_trans (min_left (least_over h i k) (h (i + suc k))) (least_low k z a (omega arith))
  ]

  -- and at least what is at most each
  pub least_high : (v : ℤ) (k : ℕ) → ((z : ℕ) → i ≤ z → z ≤ i + k → v ≤ℤ h z) → v ≤ℤ least_over h i k
  unfolding least_over
  least_high v zero f = f i (le_refl i) (omega arith)
  least_high v (suc k) f =
      under_min v (least_over h i k) (h (i + suc k)) (least_high v k (λ z a b. f z a (omega arith))) (f (i + suc k) (omega arith) (omega arith))

  -- it is met
  pub least_met : (k : ℕ) → (z : ℕ) × (i ≤ z) × (z ≤ i + k) × (least_over h i k ≡ h z)
  unfolding least_over minℤ
  least_met zero = (i, le_refl i, omega arith, refl)
  least_met (suc k) = step (le_z (least_over h i k) (h (i + suc k))) (least_met k)
    where
      step : (t : Bool) → ((z : ℕ) × (i ≤ z) × (z ≤ i + k) × (least_over h i k ≡ h z))
          → (z : ℕ) × (i ≤ z) × (z ≤ i + suc k) × (cond t (least_over h i k) (h (i + suc k)) ≡ h z)
      step true p = (p.0, p.1, omega (arith, p.2), p.3)
      step false p = (i + suc k, omega arith, le_refl (i + suc k), refl)

-- a higher curve has a higher least
pub least_rises : (h g : ℕ → ℤ) (i k : ℕ) → ((z : ℕ) → i ≤ z → z ≤ i + k → h z ≤ℤ g z) → least_over h i k ≤ℤ least_over g i k
least_rises h g i k f = least_high g i (least_over h i k) k (λ z a b. ≤ℤ_trans (least_low h i k z a b) (f z a b))
