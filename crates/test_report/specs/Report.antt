-- The report's example, 4.2, with the square-root rates as its production table. Assumes nothing.
use Rattle.std.specs.Prelude.{List, [], ◌∷◌, ℕ, pos, replicate}
use Rattle.problem.specs.Case.{Case, lent}
use Rattle.ratetable.specs.Rate.{rates_from}

-- plant 1 makes up to 200 drums, plant 2 up to 200; no least runs, and no ceiling below 4,000
abbrev pub report_with : List ℕ → Case
report_with table =
    lent 3 4 0 0 (pos 12 ∷ pos 1 ∷ pos 3 ∷ pos 4 ∷ pos 4 ∷ pos 9 ∷ pos 6 ∷ pos 2 ∷ pos 2 ∷ pos 6 ∷ pos 2 ∷ pos 10 ∷ []) (200 ∷ 200 ∷ 150 ∷ [])
    (80 ∷ 180 ∷ 120 ∷ 70 ∷ []) (replicate 12 4000) table 12 201 201

unfoldable pub report : Case
report = report_with (rates_from 0 201)
