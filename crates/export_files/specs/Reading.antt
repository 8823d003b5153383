-- What a caller outside Rattle is told of the numbers that files hold: a number, the numbers in lent slices, their counts or a refusal's place
-- in another. Assumes nothing.
use Rattle.std.specs.Prelude.{◌≡◌, Bool, cond, ◌||◌, List, [], ◌∷◌, ℕ, min, ◌*◌, ltb, ℤ, length, take, Result, Ok, Err}
use Rattle.std.proofs.lemmas.List.Edits.{sets}
use Rattle.transport.specs.Curve.{written}
use Rattle.size.specs.declared.limits.Size.{Size}
use Rattle.refusal.specs.declared.Cause.{Cause}
use Rattle.refusal.specs.declared.Cause.TheVariants.{Room}
use Rattle.refusal.specs.declared.Refusal.{Refusal}
use Rattle.refusal.specs.Number.{number_of}
use Rattle.size.specs.Size.{checked_of}
use Rattle.csv_form.specs.declared.Kind.TheVariants.{Tariff, Production}
use Rattle.csv_form.specs.Records.{form_of}
use Rattle.csv_table.specs.Files.{refused, table_of, stands}
use Rattle.csv_case.specs.CaseFiles.{CaseAnswer, records_of, costs_in, supplies_in, demands_in, case_answer}
use Rattle.csv_case.specs.Entries.{entries_of, entries_for}
use Rattle.export_reports.specs.Report.{short_report}
use Rattle.export_files.specs.declared.reading.Reading.{Reading}
use Rattle.export_files.specs.declared.reading.Reading.TheVariants.{Read, Refused}

-- which of two files is refused where one is: 1 the tariff, which is judged first, else 2 the production file
abbrev pub faulty_file : List ℕ → ℕ
faulty_file t = cond (stands (table_of Tariff t)) 2 1

-- the entries that are stored: one more than any case has
abbrev pub most_entries : ℕ
most_entries = 4002

-- slices of these lengths cannot hold m × n unit costs, m supplies, n demands and the entries
unfoldable pub too_short : ℕ → ℕ → ℕ → ℕ → ℕ → ℕ → ℕ → Bool
too_short m n count costs supplies demands table = ltb costs (m * n) || (ltb supplies m || (ltb demands n || ltb table (min count most_entries)))

unfoldable pub roomy_reading : ℕ → ℕ → ℕ → ℕ → ℕ → ℕ → ℕ → Reading
roomy_reading m n count costs supplies demands table = cond (too_short m n count costs supplies demands table) (Refused 11 0 0) (Read m n count)

-- a size that is never planned is refused by its number
abbrev pub by_size : Result Size Cause → Reading → Reading
by_size (Err k) a = Refused (number_of k) 0 0
by_size (Ok z) a = a

unfoldable pub sized_reading : ℕ → ℕ → ℕ → ℕ → ℕ → ℕ → ℕ → Reading
sized_reading m n count costs supplies demands table = by_size (checked_of m n) (roomy_reading m n count costs supplies demands table)

-- refusals 20 to 22 of the files, then 1 and 2, then 11
abbrev pub reading_for : CaseAnswer → ℕ → ℕ → ℕ → ℕ → ℕ → Reading
reading_for (Err r) file costs supplies demands table = Refused (number_of r.cause) r.place file
reading_for (Ok k) file costs supplies demands table = sized_reading k.m k.n k.entries costs supplies demands table

unfoldable pub reading_of : List ℕ → List ℕ → ℕ → ℕ → ℕ → ℕ → Reading
reading_of t p costs supplies demands table = reading_for (case_answer t p) (faulty_file t) costs supplies demands table

-- 0, or the refusal's number
abbrev pub reading_number : Reading → ℕ
reading_number (Read m n count) = 0
reading_number (Refused number place file) = number

-- m, n and the count of entries; the refusal's place, and the file that it is about
abbrev pub reading_report : Reading → List ℕ
reading_report (Read m n count) = m ∷ n ∷ count ∷ []
reading_report (Refused number place file) = place ∷ file ∷ []

-- numbers in the first cells, the later ones as they were; on a refusal all are
abbrev pub stored_if : {A : Type 0} → Reading → List A → List A → List A
stored_if (Read m n count) new old = sets old 0 new
stored_if (Refused number place file) new old = old

-- what is answered and stored of two files, by the lengths of the four slices
pub record CaseRead (t p : List ℕ) (costs : List ℤ) (supplies demands table : List ℕ) (costs' : List ℤ) (supplies' demands' table' : List ℕ) (answer : Reading) : Type 0 where
  pub answered : answer ≡ reading_of t p (length costs) (length supplies) (length demands) (length table)
  pub costs_cells : costs' ≡ stored_if answer (costs_in (records_of (form_of Tariff t))) costs
  pub supplies_cells : supplies' ≡ stored_if answer (supplies_in (records_of (form_of Tariff t))) supplies
  pub demands_cells : demands' ≡ stored_if answer (demands_in (records_of (form_of Tariff t))) demands
  pub table_cells : table' ≡ stored_if answer (take most_entries (entries_of p)) table

-- the report has three cells: number and report are those of the answer
pub record ReadTold (t p : List ℕ) (costs : List ℤ) (supplies demands table : List ℕ) (costs' : List ℤ) (supplies' demands' table' report reported : List ℕ) (r : ℕ) : Type 0 where
  pub number : r ≡ reading_number (reading_of t p (length costs) (length supplies) (length demands) (length table))
  pub cells : reported ≡ written (reading_report (reading_of t p (length costs) (length supplies) (length demands) (length table))) report
  pub stored :
      CaseRead t p costs supplies demands table costs' supplies' demands' table'
      (reading_of t p (length costs) (length supplies) (length demands) (length table))

-- it has fewer: nothing is done
pub record ReadUntold (costs : List ℤ) (supplies demands table : List ℕ) (costs' : List ℤ) (supplies' demands' table' report reported : List ℕ) (r : ℕ) : Type 0 where
  pub number : r ≡ short_report
  pub cells : reported ≡ report
  pub costs_kept : costs' ≡ costs
  pub supplies_kept : supplies' ≡ supplies
  pub demands_kept : demands' ≡ demands
  pub table_kept : table' ≡ table

unfoldable pub ReadExported : List ℕ → List ℕ → List ℤ → List ℕ → List ℕ → List ℕ → List ℤ → List ℕ → List ℕ → List ℕ → List ℕ → List ℕ → ℕ → Type 0
ReadExported t p costs supplies demands table costs' supplies' demands' table' report reported r =
    cond (ltb (length report) 3) (ReadUntold costs supplies demands table costs' supplies' demands' table' report reported r)
    (ReadTold t p costs supplies demands table costs' supplies' demands' table' report reported r)

-- ---- a production file alone

-- refusals 20 to 22, then 11 where a slice of this length is too short
abbrev pub entries_reading : Result ℕ Refusal → ℕ → Result ℕ Refusal
entries_reading (Err r) table = Err r
entries_reading (Ok count) table = cond (ltb table (min count most_entries)) (refused Room 0) (Ok count)

abbrev pub entries_number : Result ℕ Refusal → ℕ
entries_number (Ok count) = 0
entries_number (Err r) = number_of r.cause

-- the count of entries, or the place
abbrev pub entries_report : Result ℕ Refusal → List ℕ
entries_report (Ok count) = count ∷ []
entries_report (Err r) = r.place ∷ []

abbrev pub entries_if : Result ℕ Refusal → List ℕ → List ℕ → List ℕ
entries_if (Ok count) new old = sets old 0 new
entries_if (Err r) new old = old

unfoldable pub entries_answer : List ℕ → ℕ → Result ℕ Refusal
entries_answer p table = entries_reading (entries_for (table_of Production p)) table

pub record EntriesTold (p table table' report reported : List ℕ) (r : ℕ) : Type 0 where
  pub number : r ≡ entries_number (entries_answer p (length table))
  pub cells : reported ≡ written (entries_report (entries_answer p (length table))) report
  pub stored : table' ≡ entries_if (entries_answer p (length table)) (take most_entries (entries_of p)) table

pub record EntriesUntold (table table' report reported : List ℕ) (r : ℕ) : Type 0 where
  pub number : r ≡ short_report
  pub cells : reported ≡ report
  pub table_kept : table' ≡ table

unfoldable pub EntriesExported : List ℕ → List ℕ → List ℕ → List ℕ → List ℕ → ℕ → Type 0
EntriesExported p table table' report reported r =
    cond (ltb (length report) 2) (EntriesUntold table table' report reported r) (EntriesTold p table table' report reported r)
