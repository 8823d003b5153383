-- A list whose first cells were written one after the other. Assumes nothing.
use mathlib.Core.Path.{◌≡◌, refl, sym, ap, ◌∙◌}
use mathlib.Core.List.{List, [], ◌∷◌, ◌++◌}
use Prim.Native.Nat.{ℕ, zero, suc, ◌≤◌, ◌<◌}
use native.Mathlib.Omega.{arith}
use lib.ListN.{length, set, drop, length-set}
use Rattle.transport.specs.Curve.{written}
use Rattle.flow_problem.specs.Network.{cells}
use Rattle.flow_problem.proofs.NodesAndSources.{cells_length}

module _ {A : Type 0} where
  -- the first i cells are f's, the later ones as they were
  abbrev pub front : (ℕ → A) → ℕ → List A → List A
  front f i l = cells i f ++ drop i l

  pub front_none : (f : ℕ → A) (l : List A) → front f 0 l ≡ l
  unfolding cells
  front_none f l = refl

  pub front_next : (f : ℕ → A) (i : ℕ) (l : List A) → i < length l → set (front f i l) i (f i) ≡ front f (suc i) l
  unfolding cells
  front_next f i [] h = absurd (omega arith)
  front_next f zero (y ∷ l) h = refl
  front_next f (suc i) (y ∷ l) h = ap (λ (t : List A). f 0 ∷ t) (front_next (λ j. f (suc j)) i l (omega (arith, h)))

  pub front_length : (f : ℕ → A) (i : ℕ) (l : List A) → i ≤ length l → length (front f i l) ≡ length l
  front_length f zero l h = ap length (front_none f l)
  front_length f (suc i) l h = sym (ap length (front_next f i l (omega (arith, h)))) ∙ length-set (front f i l) i (f i) ∙ front_length f i l (omega (arith, h))

  pub front_written : (f : ℕ → A) (n : ℕ) (l : List A) → front f n l ≡ written (cells n f) l
  front_written f n l = ap (λ (m : ℕ). cells n f ++ drop m l) (sym (cells_length n f))
