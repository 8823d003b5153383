-- Sums over arcs regrouped by node. Assumes nothing.
use mathlib.Core.Path.{◌≡◌, refl, sym, ap, ◌∙◌}
use mathlib.Core.Logic.{◌≢◌}
use mathlib.Core.Bool.{Bool, cond}
use Prim.Native.Nat.{ℕ, zero, suc, ◌+◌, ◌<◌}
use native.Mathlib.Decide.{ℕ_discrete}
use native.Mathlib.Omega.{arith}
use lib.Dec.{eqb}
use lib.IntN.{ℤ, pos, ◌+ℤ◌, +ℤ_assoc, +ℤ_comm, +ℤ_idl, +ℤ_idr}
use borrow.Author.Tests.{eq-eqb, ne_eqb}
use Rattle.transport.specs.Sum.{sum}
use Rattle.transport.proofs.Sums.{sum_ext, sum_swap, sum_change}
use Rattle.problem.specs.Integer.{sumℤ}
use Rattle.flow_problem.specs.Network.{at}
use Rattle.transport.proofs.TightLanes.{sum_only}

-- ---- a choice by equality

pub cond_same : {A : Type 0} (i j : ℕ) (a b : A) → i ≡ j → cond (eqb i j) a b ≡ a
cond_same i j a b e = ap (λ (t : Bool). cond t a b) (eq-eqb i j e)

pub cond_other : {A : Type 0} (i j : ℕ) (a b : A) → i ≢ j → cond (eqb i j) a b ≡ b
cond_other i j a b d = ap (λ (t : Bool). cond t a b) (ne_eqb i j d)

pub at_same : (i j v : ℕ) → i ≡ j → at i j v ≡ v
unfolding at
at_same i j v e = cond_same i j v 0 e

pub at_other : (i j v : ℕ) → i ≢ j → at i j v ≡ 0
unfolding at
at_other i j v d = cond_other i j v 0 d

-- ---- sums with few members that are not 0

-- two members
pub sum_two_at : (k a b : ℕ) (f : ℕ → ℕ) → a < k → b < k → a ≢ b → ((i : ℕ) → i < k → i ≢ a → i ≢ b → f i ≡ 0) → sum k f ≡ f a + f b
sum_two_at k a b f l q d h =
    let g : ℕ → ℕ = λ i. at a i (f a) in
    omega (
      arith,
      sum_change k b f g q (λ i r z. off i r z (ℕ_discrete i a)),
      sum_only k a g l (λ i r z. at_other a i (f a) (λ e. z (sym e))),
      at_same a a (f a) refl,
      at_other a b (f a) d,
    )
  where
    off : (i : ℕ) → i < k → i ≢ b → Dec (i ≡ a) → f i ≡ at a i (f a)
    off i r z (yes e) = ap f e ∙ sym (at_same a i (f a) (sym e))
    off i r z (no n) = h i r n z ∙ sym (at_other a i (f a) (λ e. n (sym e)))

-- a sum without its member k, and that member
pub sum_except : (n k : ℕ) (f : ℕ → ℕ) → k < n → sum n f ≡ sum n (λ j. cond (eqb j k) 0 (f j)) + f k
sum_except n k f l =
    omega (
      arith,
      sum_change n k f (λ j. cond (eqb j k) 0 (f j)) l (λ j q d. sym (cond_other j k 0 (f j) d)),
      cond_same k k 0 (f k) refl,
    )

-- every arc has one end: its numbers, summed at each node and then over the nodes, are summed once
pub regroup : (nodes n : ℕ) (end f : ℕ → ℕ) → ((j : ℕ) → j < n → end j < nodes) → sum nodes (λ i. sum n (λ j. at (end j) i (f j))) ≡ sum n f
regroup nodes n end f h =
    sum_swap nodes n (λ i j. at (end j) i (f j))
    ∙ sum_ext n _ f (λ j l. sum_only nodes (end j) (λ i. at (end j) i (f j)) (h j l) (λ i q d. at_other (end j) i (f j) (λ e. d (sym e))) ∙ at_same (end j) (end j) (f j) refl)

-- ---- the same of integers

pub sumℤ_ext : (k : ℕ) (f g : ℕ → ℤ) → ((i : ℕ) → i < k → f i ≡ g i) → sumℤ k f ≡ sumℤ k g
unfolding sumℤ
sumℤ_ext zero f g h = refl
sumℤ_ext (suc k) f g h = cc (sumℤ_ext k f g (λ i l. h i (omega arith)), h k (omega arith))

pub sumℤ_none : (k : ℕ) → sumℤ k (λ i. pos 0) ≡ pos 0
unfolding sumℤ
sumℤ_none zero = refl
sumℤ_none (suc k) = +ℤ_idr (sumℤ k (λ i. pos 0)) ∙ sumℤ_none k

four : (a b c d : ℤ) → (a +ℤ b) +ℤ (c +ℤ d) ≡ (a +ℤ c) +ℤ (b +ℤ d)
four a b c d =
    +ℤ_assoc a b (c +ℤ d)
    ∙ ap (λ (z : ℤ). a +ℤ z) (sym (+ℤ_assoc b c d) ∙ ap (λ (z : ℤ). z +ℤ d) (+ℤ_comm b c) ∙ +ℤ_assoc c b d)
    ∙ sym (+ℤ_assoc a c (b +ℤ d))

pub sumℤ_add : (k : ℕ) (f g : ℕ → ℤ) → sumℤ k (λ i. f i +ℤ g i) ≡ sumℤ k f +ℤ sumℤ k g
unfolding sumℤ
sumℤ_add zero f g = refl
sumℤ_add (suc k) f g = ap (λ (z : ℤ). z +ℤ (f k +ℤ g k)) (sumℤ_add k f g) ∙ four (sumℤ k f) (sumℤ k g) (f k) (g k)

pub sumℤ_swap : (m n : ℕ) (f : ℕ → ℕ → ℤ) → sumℤ m (λ i. sumℤ n (λ j. f i j)) ≡ sumℤ n (λ j. sumℤ m (λ i. f i j))
unfolding sumℤ
sumℤ_swap zero n f = sym (sumℤ_none n)
sumℤ_swap (suc m) n f =
    ap (λ (z : ℤ). z +ℤ sumℤ n (λ j. f m j)) (sumℤ_swap m n f) ∙ sym (sumℤ_add n (λ j. sumℤ m (λ i. f i j)) (λ j. f m j))

pub sumℤ_one : (k a : ℕ) (f : ℕ → ℤ) → a < k → ((i : ℕ) → i < k → i ≢ a → f i ≡ pos 0) → sumℤ k f ≡ f a
unfolding sumℤ
sumℤ_one zero a f l h = absurd (omega arith)
sumℤ_one (suc k) a f l h = elim (ℕ_discrete k a) [
  | yes e ↦
      ap (λ (z : ℤ). z +ℤ f k) (sumℤ_ext k f (λ i. pos 0) (λ i q. h i (omega arith) (λ d. omega arith)) ∙ sumℤ_none k)
      ∙ +ℤ_idl (f k)
      ∙ ap f e
  | no d ↦
      ap (λ (z : ℤ). sumℤ k f +ℤ z) (h k (omega arith) d)
      ∙ +ℤ_idr (sumℤ k f)
      ∙ sumℤ_one k a f (omega arith) (λ i q z. h i (omega arith) z)
]
