-- The fields that are copied, each turned. Assumes nothing.
use mathlib.Core.Path.{◌≡◌, ap, sym, ◌∙◌}
use mathlib.Core.List.{List, map}
use Prim.Native.Nat.{ℕ, ◌+◌, ◌≤◌, ◌<◌}
use lib.IntN.{ℤ, pos}
use lib.ListN.{length, get_or, take, drop, get_or-map, length-map}
use Rattle.csv_print.proofs.Stores.{part_at, part_length}

module _ {A : Type 0} (F : ℤ → A) (values : List ℤ) (start count : ℕ) where
  -- the turned values from start on
  pub turned_at : (j : ℕ) → j < count → F (get_or values (start + j) (pos 0)) ≡ get_or (map F (take count (drop start values))) j (F (pos 0))
  turned_at j h = sym (get_or-map F (take count (drop start values)) j (pos 0) ∙ ap F (part_at values start count j (pos 0) h))

  pub turned_length : start + count ≤ length values → length (map F (take count (drop start values))) ≡ count
  turned_length h = length-map (take count (drop start values)) F ∙ part_length values start count h
