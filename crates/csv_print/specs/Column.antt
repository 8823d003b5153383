-- A column of numbers as CSV. Assumes nothing.
use Rattle.std.specs.Prelude.{cond, List, [], ◌∷◌, ℕ, ltb, pos, length, get_or}
use Rattle.csv_print.specs.Text.{record_text, each}

-- each number a record of its own
unfoldable pub column_text : List ℕ → List ℕ
column_text l = each (length l) (λ k. record_text (pos (get_or l k 0) ∷ []))

-- what is printed: the column, where it has fewer than 2^32 numbers
unfoldable pub column_printed : List ℕ → List ℕ
column_printed l = cond (ltb 4294967295 (length l)) [] (column_text l)
