-- The first number that passes a test: what a loop that looks for it needs.
-- Assumes nothing.
use mathlib.Core.Path.{◌≡◌, refl, sym, ap, ◌∙◌}
use mathlib.Core.Bool.{Bool, true, false}
use mathlib.Core.Option.{Option, none, some}
use Prim.Native.Nat.{ℕ, zero, suc, ◌+◌, ◌-◌, ◌≤◌, ◌<◌}
use mathlib.Core.Logic.{◌⊎◌, inl, inr}
use native.Mathlib.Nat.{eq-or-lt_of_le}
use native.Mathlib.Decide.{ℕ_discrete, dec_lt}
use native.Mathlib.Omega.{arith}
use borrow.Author.Tests.{lt-ltb, le-ltb}
use mathlib.Core.List.{List}
use lib.ListN.{length, get_or}
use Rattle.problem.specs.Outcome.{first_from}
use Rattle.problem.specs.inner.LentTests.{AtMost, first_above, first_outside}
use lib.IntN.{ℤ, pos}
use Rattle.problem.specs.Range.{outside}

step_false : (p : ℕ → Bool) (i k : ℕ) → p i ≡ false → first_from p i (suc k) ≡ first_from p (suc i) k
unfolding first_from
step_false p i k e = rw (e, first_from) refl

step_true : (p : ℕ → Bool) (i k : ℕ) → p i ≡ true → first_from p i (suc k) ≡ some i
unfolding first_from
step_true p i k e = rw (e, first_from) refl

-- none of i, .., i + k - 1 passes
pub first_none : (p : ℕ → Bool) (i k : ℕ) → ((j : ℕ) → i ≤ j → j < i + k → p j ≡ false) → first_from p i k ≡ none
unfolding first_from
first_none p i zero h = refl
first_none p i (suc k) h = step_false p i k (h i (omega arith) (omega arith)) ∙ first_none p (suc i) k (λ j a b. h j (omega arith) (omega arith))

-- a is the first that passes
pub first_some : (p : ℕ → Bool) (i k a : ℕ) → i ≤ a → a < i + k → ((j : ℕ) → i ≤ j → j < a → p j ≡ false) → p a ≡ true → first_from p i k ≡ some a
first_some p i zero a l u h t = absurd (omega arith)
first_some p i (suc k) a l u h t = step (first_some p (suc i) k a) (eq-or-lt_of_le l)
  where
    step : (suc i ≤ a → a < suc i + k → ((j : ℕ) → suc i ≤ j → j < a → p j ≡ false) → p a ≡ true → first_from p (suc i) k ≡ some a) → (i ≡ a) ⊎ (i < a)
        → first_from p i (suc k) ≡ some a
    step below (inl e) = step_true p i k (ap p e ∙ t) ∙ ap some e
    step below (inr g) = step_false p i k (h i (omega arith) g) ∙ below g (omega arith) (λ j b s. h j (omega arith) s) t

-- ---- numbers of a list

pub above_none : (limit : ℕ) (l : List ℕ) → AtMost limit l → first_above limit l ≡ none
unfolding first_above
above_none limit l h = first_none _ 0 (length l) (λ j a b. le-ltb limit (get_or l j 0) (h j (omega arith)))

pub above_some : (limit : ℕ) (l : List ℕ) (k : ℕ) → k < length l → ((j : ℕ) → j < k → get_or l j 0 ≤ limit) → limit < get_or l k 0
    → first_above limit l ≡ some k
unfolding first_above
above_some limit l k b h t =
    first_some _ 0 (length l) k (omega arith) (omega arith) (λ j a s. le-ltb limit (get_or l j 0) (h j s)) (lt-ltb limit (get_or l k 0) t)

pub outside_none : (l : List ℤ) → ((k : ℕ) → k < length l → outside (get_or l k (pos 0)) ≡ false) → first_outside l ≡ none
unfolding first_outside
outside_none l h = first_none _ 0 (length l) (λ j a b. h j (omega arith))

pub outside_some : (l : List ℤ) (k : ℕ) → k < length l → ((j : ℕ) → j < k → outside (get_or l j (pos 0)) ≡ false) → outside (get_or l k (pos 0)) ≡ true
    → first_outside l ≡ some k
unfolding first_outside
outside_some l k b h t = first_some _ 0 (length l) k (omega arith) (omega arith) (λ j a s. h j s) t

-- ---- what an answer says

pub record FirstAt (p : ℕ → Bool) (i k a : ℕ) : Type 0 where
  pub low : i ≤ a
  pub high : a < i + k
  pub before : (j : ℕ) → i ≤ j → j < a → p j ≡ false
  pub here : p a ≡ true

pub none_passes : (p : ℕ → Bool) (i k : ℕ) → first_from p i k ≡ none → (j : ℕ) → i ≤ j → j < i + k → p j ≡ false
unfolding first_from
none_passes p i zero e j a b = absurd (omega arith)
none_passes p i (suc k) e j a b = step (none_passes p (suc i) k) (p i) refl e
  where
    step : (first_from p (suc i) k ≡ none → (j : ℕ) → suc i ≤ j → j < suc i + k → p j ≡ false) → (t : Bool) → p i ≡ t
        → (let r : Option ℕ = elim t [ true ↦ some i | false ↦ first_from p (suc i) k ] in r) ≡ none → p j ≡ false
    step below true q e = let z : ◌≡◌ {A = ℕ} 0 1 = cc in absurd (omega arith)
    step below false q e = elim (ℕ_discrete j i) [ yes z ↦ ap p z ∙ q | no d ↦ below e j (omega arith) (omega arith) ]

pub some_first : (p : ℕ → Bool) (i k a : ℕ) → first_from p i k ≡ some a → FirstAt p i k a
unfolding first_from
some_first p i zero a e = let z : ◌≡◌ {A = ℕ} 0 1 = cc in absurd (omega arith)
some_first p i (suc k) a e = step (some_first p (suc i) k a) (p i) refl e
  where
    step : (first_from p (suc i) k ≡ some a → FirstAt p (suc i) k a) → (t : Bool) → p i ≡ t
        → (let r : Option ℕ = elim t [ true ↦ some i | false ↦ first_from p (suc i) k ] in r) ≡ some a → FirstAt p i (suc k) a
    step below true q e =
        let z : i ≡ a = cc in
        record { low = omega arith; high = omega arith; before = λ j b l. absurd (omega arith); here = ap p (sym z) ∙ q }
    step below false q e =
        let h = below e in
        record {
          low = omega (arith, h.low);
          high = omega (arith, h.high);
          before = λ j b l. elim (ℕ_discrete j i) [ yes z ↦ ap p z ∙ q | no d ↦ h.before j (omega arith) l ];
          here = h.here;
        }

-- the answer over another range of as many numbers
unfoldable pub moved : ℕ → ℕ → Option ℕ → Option ℕ
moved i j none = none
moved i j (some a) = some (a - j + i)

pub first_moved : (p q : ℕ → Bool) (i j k : ℕ) → ((t : ℕ) → t < k → p (i + t) ≡ q (j + t)) → first_from p i k ≡ moved i j (first_from q j k)
unfolding moved
first_moved p q i j k h = go (first_from q j k) refl
  where
    at : (a : ℕ) → i ≤ a → a < i + k → p a ≡ q (a - i + j)
    at a l b =
        ap p (let z : a ≡ i + (a - i) = omega arith in z) ∙ h (a - i) (omega arith) ∙ ap q (let z : j + (a - i) ≡ a - i + j = omega arith in z)

    go : (r : Option ℕ) → first_from q j k ≡ r → first_from p i k ≡ moved i j r
    go none e = first_none p i k (λ a l b. at a l b ∙ none_passes q j k e (a - i + j) (omega arith) (omega arith))
    go (some a) e =
        let f = some_first q j k a e in
        first_some p i k (a - j + i) (omega arith) (omega (arith, f.low, f.high))
        (λ b l s. at b l (omega (arith, f.low, f.high)) ∙ f.before (b - i + j) (omega arith) (omega (arith, f.low)))
        (at (a - j + i) (omega arith) (omega (arith, f.low, f.high)) ∙ ap q (let z : a - j + i - i + j ≡ a = omega (arith, f.low) in z) ∙ f.here)

-- one range after another
pub first_then : (p : ℕ → Bool) (i a b : ℕ) → first_from p i a ≡ none → first_from p i (a + b) ≡ first_from p (i + a) b
first_then p i a b e = go (first_from p (i + a) b) refl
  where
    n : (j : ℕ) → i ≤ j → j < i + a → p j ≡ false
    n = none_passes p i a e

    go : (r : Option ℕ) → first_from p (i + a) b ≡ r → first_from p i (a + b) ≡ r
    go none q =
        first_none p i (a + b)
        (λ j l s. elim (dec_lt j (i + a)) [ yes u ↦ n j l u | no u ↦ none_passes p (i + a) b q j (omega arith) (omega arith) ])
    go (some c) q =
        let f = some_first p (i + a) b c q in
        first_some p i (a + b) c (omega (arith, f.low)) (omega (arith, f.high))
        (λ j l s. elim (dec_lt j (i + a)) [ yes u ↦ n j l u | no u ↦ f.before j (omega arith) s ]) f.here

pub first_within : (p : ℕ → Bool) (i a b c : ℕ) → first_from p i a ≡ some c → first_from p i (a + b) ≡ some c
first_within p i a b c e = let f = some_first p i a c e in first_some p i (a + b) c f.low (omega (arith, f.high)) f.before f.here
