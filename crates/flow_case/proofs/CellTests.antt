-- Sums and tests of a list's cells, against std's words. Assumes nothing.
use mathlib.Core.Path.{◌≡◌, refl, sym, ap, ap₂, ◌∙◌}
use mathlib.Core.Bool.{Bool, true, false, ◌||◌}
use mathlib.Core.List.{List, [], ◌∷◌}
use Prim.Native.Nat.{ℕ, zero, suc, ◌+◌, ◌-◌, ◌*◌, ◌≤◌}
use native.Mathlib.Omega.{arith}
use native.Mathlib.Decide.{dec_lt}
use lib.Dec.{ltb}
use borrow.Author.Tests.{lt-ltb, le-ltb}
use lib.ListN.{length, get_or}
use Rattle.std.specs.List.{list_any, zip}
use Rattle.std.specs.List as listed
use Rattle.std.proofs.lemmas.List.Sums.{sum_by-cons}
use Rattle.transport.specs.Sum.{sum}
use Rattle.transport.proofs.Sums.{sum_zero, sum_front, sum_most}
use Rattle.flow_problem.specs.Answer.{any_below}
use Rattle.flow_problem.proofs.FlowListing.{or_regroup}
use Rattle.flow_case.specs.inner.Build.{AtMostAll}

-- a list's sum is that of its cells
pub sum_cells : (l : List ℕ) → listed.sum l ≡ sum (length l) (λ i. get_or l i 0)
sum_cells [] = sym (sum_zero (λ i. get_or [] i 0))
sum_cells (x ∷ l) =
    sum_by-cons (λ y. y) x l ∙ ap (λ (s : ℕ). x + s) (sum_cells l) ∙ sym (sum_front (length l) (λ i. get_or (x ∷ l) i 0))

pub sum_small : (l : List ℕ) (a : ℕ) → AtMostAll a l → listed.sum l ≤ length l * a
sum_small l a h = omega (arith, sum_cells l, sum_most (length l) a (λ i. get_or l i 0) h)

-- a test passed by a cell
any_front : (k : ℕ) (p : ℕ → Bool) → any_below (suc k) p ≡ (p 0 || any_below k (λ i. p (suc i)))
unfolding any_below
any_front zero p = turn (p 0)
  where
    turn : (a : Bool) → (false || a) ≡ (a || false)
    turn true = refl
    turn false = refl
any_front (suc k) p = ap (λ (b : Bool). b || p (suc k)) (any_front k p) ∙ or_regroup (p 0) (any_below k (λ i. p (suc i))) (p (suc k))

pub any_cells : (p : ℕ → Bool) (l : List ℕ) → list_any p l ≡ any_below (length l) (λ i. p (get_or l i 0))
unfolding any_below
any_cells p [] = refl
any_cells p (x ∷ l) = ap (λ (b : Bool). p x || b) (any_cells p l) ∙ sym (any_front (length l) (λ i. p (get_or (x ∷ l) i 0)))

-- a test passed by a cell of each of two lists
pub any_pairs : (p : ℕ × ℕ → Bool) (xs ys : List ℕ) → length xs ≡ length ys → list_any p (zip xs ys) ≡ any_below (length xs) (λ i. p (get_or xs i 0, get_or ys i 0))
unfolding any_below
any_pairs p [] ys h = refl
any_pairs p (x ∷ xs) [] h = absurd (omega arith)
any_pairs p (x ∷ xs) (y ∷ ys) h =
    ap (λ (b : Bool). p (x, y) || b) (any_pairs p xs ys (omega arith)) ∙ sym (any_front (length xs) (λ i. p (get_or (x ∷ xs) i 0, get_or (y ∷ ys) i 0)))

pub over_same : (have take : ℕ) → ltb 4000 (have - take) ≡ ltb (take + 4000) have
over_same have take = elim (dec_lt (take + 4000) have) [
  | yes l ↦ lt-ltb 4000 (have - take) (omega arith) ∙ sym (lt-ltb (take + 4000) have l)
  | no l ↦ le-ltb 4000 (have - take) (omega arith) ∙ sym (le-ltb (take + 4000) have (omega arith))
]

pub any_ext : (k : ℕ) (p q : ℕ → Bool) → ((i : ℕ) → p i ≡ q i) → any_below k p ≡ any_below k q
unfolding any_below
any_ext zero p q h = refl
any_ext (suc k) p q h = ap₂ (λ (a b : Bool). a || b) (any_ext k p q h) (h k)
