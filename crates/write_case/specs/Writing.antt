-- Refusals 32 and 33, and what the writer of a case answers and writes. Assumes nothing.
use Rattle.std.specs.Prelude.{◌≡◌, ◌||◌, List, ℕ, ltb, length, Ok, Err}
use Rattle.std.proofs.Math.Option.{Option, none, some}
use Rattle.std.proofs.lemmas.List.Edits.{sets}
use Rattle.problem.specs.Case.{Case, entry}
use Rattle.problem.specs.Outcome.{Outcome, refused, refuse_if, refuse_at, first_from, ◌or_else◌}
use Rattle.refusal.specs.Number.{number_of}
use Rattle.planner.specs.Judge.{case_refusal}
use Rattle.csv_case.specs.CaseFiles.{CaseAnswer, case_answer}
use Rattle.plan_files.specs.Printed.{file_case}
use Rattle.write_case.specs.declared.Texts.{Texts}
use Rattle.write_case.specs.declared.Texts.TheVariants.{Written, Refused}
use Rattle.case_texts.specs.Texts.{tariff_text, production_text}

-- a table entry above 9,999,999,999, which no field can hold; place y
unfoldable pub test32 : Case → Option Outcome
test32 c = refuse_at 32 (first_from (λ y. ltb 9999999999 (entry c y)) 0 (length c.table))

-- a lent slice shorter than its text, where the slices have t and p cells
unfoldable pub test33 : Case → ℕ → ℕ → Option Outcome
test33 c t p = refuse_if 33 (ltb t (length (tariff_text c)) || ltb p (length (production_text c)))

-- tests 1 to 9 of the case, with 23, 26 and 27 where they stand, then 32; then 33
unfoldable pub entries_refusal : Case → Option Outcome
entries_refusal c = case_refusal c or_else test32 c

unfoldable pub write_refusal : Case → ℕ → ℕ → Option Outcome
write_refusal c t p = entries_refusal c or_else test33 c t p

-- the answer's refusal, if any
abbrev pub refusal : Texts → Option Outcome
refusal (Written tariff production) = none
refusal (Refused number place) = some (refused number place)

-- a text written from the first cell on, later cells as they were; on a refusal all cells are
abbrev pub unless_refused : Option Outcome → List ℕ → List ℕ → List ℕ
unless_refused none text out = sets out 0 text
unless_refused (some r) text out = out

-- what is answered and written: the refusal, if any, or both lengths; the two texts t and p, unless there is a refusal
pub record TextsTold (o : Option Outcome) (t p tariff production tariff' production' : List ℕ) (answer : Texts) : Type 0 where
  pub refusal_told : refusal answer ≡ o
  pub lengths_told : (a b : ℕ) → answer ≡ Written a b → (a ≡ length t) × (b ≡ length p)
  pub tariff_cells : tariff' ≡ unless_refused o t tariff
  pub production_cells : production' ≡ unless_refused o p production

-- what the writer of a case answers and writes
abbrev pub CaseWritten : Case → List ℕ → List ℕ → List ℕ → List ℕ → Texts → Type 0
CaseWritten c tariff production tariff' production' answer =
    TextsTold (write_refusal c (length tariff) (length production)) (tariff_text c) (production_text c) tariff production tariff' production' answer

-- refusals 20 to 22 of two files, then those of their case
abbrev pub file_refusal : CaseAnswer → Option Outcome → Option Outcome
file_refusal (Err r) o = some (refused (number_of r.cause) r.place)
file_refusal (Ok k) o = o

-- what is answered and written of two files: their case, in the one form that depends on the case alone
abbrev pub FilesRewritten : List ℕ → List ℕ → List ℕ → List ℕ → List ℕ → List ℕ → Texts → Type 0
FilesRewritten t p tariff production tariff' production' answer =
    TextsTold (file_refusal (case_answer t p) (write_refusal (file_case t p) (length tariff) (length production))) (tariff_text (file_case t p)) (production_text (file_case t p)) tariff production tariff' production' answer
