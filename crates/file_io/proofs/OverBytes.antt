-- A value carried over the bytes of a text: from one byte to the next, and at the end. Assumes nothing.
use Rattle.std.proofs.Common.{◌≡◌, refl, sym, ap, ◌∙◌, List, ◌∷◌, ℕ, ◌+◌, ◌≤◌, ◌<◌, length, get_or, drop, add-one, drop-cons}
use Rattle.std.proofs.lemmas.List.{drop_all}
use Rattle.file_io.specs.inner.Over.{over}

ahead : (l : List ℕ) (i : ℕ) → i < length l → drop i l ≡ get_or l i 0 ∷ drop (i + 1) l
ahead l i h = rw (add-one, drop-cons l i 0 h) refl

module _ {A : Type 0} (f : A → ℕ → A) (l : List ℕ) (i : ℕ) where
  pub over_next : (a a' : A) → i < length l → a' ≡ f a (get_or l i 0) → over f a (drop i l) ≡ over f a' (drop (i + 1) l)
  unfolding over
  over_next a a' h e =
      ap (λ (x : List ℕ). over f a x) (ahead l i h)
      ∙ ap (λ (x : A). over f x (drop (i + 1) l)) (sym e)

  pub over_done : (a : A) → length l ≤ i → over f a (drop i l) ≡ a
  unfolding over
  over_done a h = ap (λ (x : List ℕ). over f a x) (drop_all i l h)
