-- What is printed of the splits that can be the cheapest: the two totals, then each split with 1 or 0. Assumes nothing.
use Rattle.std.specs.Prelude.{List, [], ◌∷◌, ◌++◌, ℕ, ◌+◌, ◌≤◌, ℤ, pos, length, get_or}
use Rattle.csv_print.specs.Text.{record_text, each}

-- `smallest,largest`
unfoldable pub totals_header : List ℕ
totals_header = 115 ∷ 109 ∷ 97 ∷ 108 ∷ 108 ∷ 101 ∷ 115 ∷ 116 ∷ 44 ∷ 108 ∷ 97 ∷ 114 ∷ 103 ∷ 101 ∷ 115 ∷ 116 ∷ 13 ∷ 10 ∷ []

-- `split,possible`
unfoldable pub splits_header : List ℕ
splits_header = 115 ∷ 112 ∷ 108 ∷ 105 ∷ 116 ∷ 44 ∷ 112 ∷ 111 ∷ 115 ∷ 115 ∷ 105 ∷ 98 ∷ 108 ∷ 101 ∷ 13 ∷ 10 ∷ []

-- a record for each of the k splits from the first on: the split, and its mark
unfoldable pub marks_text : ℕ → List ℕ → ℕ → List ℕ
marks_text first marks k = each k (λ j. record_text (pos (first + j) ∷ pos (get_or marks j 0) ∷ []))

-- the smallest and the largest that the least total can be, then the splits
unfoldable pub bounds_text : ℤ → ℤ → ℕ → List ℕ → List ℕ
bounds_text smallest largest first marks =
    ((totals_header ++ record_text (smallest ∷ largest ∷ [])) ++ splits_header) ++ marks_text first marks (length marks)

-- marks that can be printed: a first split of at most 4,000, and no more marks than the longest table has entries
pub record MarksFit (first : ℕ) (marks : List ℕ) : Type 0 where
  pub start : first ≤ 4000
  pub few : length marks ≤ 4001
