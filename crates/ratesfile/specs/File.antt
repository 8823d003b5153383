-- The production file of square-root rates: which output of plant 1 a text names, and the bytes of the file. Assumes nothing.
use Rattle.std.specs.Prelude.{Option, None, Some, cond, List, [], ℕ, ◌+◌, ltb}
use Rattle.csv_print.specs.Column.{column_text}
use Rattle.ratetable.specs.Rate.{rates_from}
use Rattle.numbers.specs.Short.{short_of}

-- the rates of the outputs 0 to most, each a record of its own; nothing above 4,000
unfoldable pub rates_text : ℕ → List ℕ
rates_text most = cond (ltb 4000 most) [] (column_text (rates_from 0 (most + 1)))

-- the file for what a text names
abbrev pub text_for : Option ℕ → List ℕ
text_for (Some most) = rates_text most
text_for None = []

unfoldable pub file_text : List ℕ → List ℕ
file_text text = text_for (short_of text)
