-- What the reader of a production file alone answers and stores. Assumes nothing.
use Rattle.std.specs.Prelude.{◌≡◌, List, ℕ, length, take, Result, Ok, Err}
use Rattle.std.proofs.lemmas.List.Edits.{sets}
use Rattle.csv_form.specs.declared.Kind.TheVariants.{Production}
use Rattle.refusal.specs.declared.Refusal.{Refusal}
use Rattle.csv_form.specs.Records.{form_of}
use Rattle.csv_table.specs.Files.{Table, table_of}
use Rattle.csv_case.specs.CaseFiles.{entries_in, records_of}

-- the entries of a production file
unfoldable pub entries_of : List ℕ → List ℕ
entries_of p = entries_in (records_of (form_of Production p))

-- refusals 20 to 22, or the count of entries
abbrev pub entries_for : Table → Result ℕ Refusal
entries_for (Ok t) = Ok t.records
entries_for (Err r) = Err r

-- the entries are stored, 4,002 at most, as far as there are cells; a refusal changes no cell
pub record EntriesStored (p table table' : List ℕ) (answer : Result ℕ Refusal) : Type 0 where
  pub answered : answer ≡ entries_for (table_of Production p)
  pub counted : (count : ℕ) → answer ≡ Ok count → count ≡ length (entries_of p)
  pub stored : (count : ℕ) → answer ≡ Ok count → table' ≡ sets table 0 (take 4002 (entries_of p))
  pub kept : (r : Refusal) → answer ≡ Err r → table' ≡ table
