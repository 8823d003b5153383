-- What is counted on the way through a file: contracts of private functions. Assumes nothing.
use Rattle.std.specs.Prelude.{◌≡◌, Bool, false, ◌||◌, List, [], ℕ, ◌+◌, ◌≤◌, ◌<◌, ◌^◌, eqb, ℤ, length, Result, Ok, Err}
use Rattle.std.proofs.lemmas.List.Edits.{sets}
use Rattle.csv_form.specs.declared.Kind.{Kind}
use Rattle.csv_form.specs.declared.Misfit.{Misfit}
use Rattle.csv_form.specs.declared.field.Field.{Field}
use Rattle.csv_table.specs.declared.table.Tally.{Tally}
use Rattle.csv_form.specs.Records.{whole, form_of}
use Rattle.refusal.specs.declared.Cause.TheVariants as causes
use Rattle.csv_table.specs.Files.{Table, shaped, refused, pick, wanted, table_of, in_order, fields_stored}

abbrev pub start_tally : Kind → Tally
start_tally kind = record { records = 0; fields = 0; width = wanted kind []; odd = 0; values = 0; rebate = false }

abbrev pub field_tally : Bool → Tally → Tally
field_tally m t = record { records = t.records; fields = t.fields + 1; width = t.width; odd = t.odd; values = t.values + 1; rebate = m || t.rebate }

-- this record is known to be a source's
abbrev pub source_tally : Tally → Bool
source_tally t = t.rebate || eqb t.records 0

abbrev pub width_or : ℕ → ℕ → ℕ
width_or width fields = pick (eqb width 0) fields width

abbrev pub odd_or : ℕ → ℕ → ℕ → ℕ → ℕ
odd_or odd width fields record' = pick (eqb odd 0) (pick (eqb fields width) 0 record') odd

abbrev pub record_tally : Tally → Tally
record_tally t = record {
  records = t.records + 1;
  fields = 0;
  width = width_or t.width t.fields;
  odd = odd_or t.odd (width_or t.width t.fields) t.fields (t.records + 1);
  values = t.values;
  rebate = false;
}

-- counts that one can be added to
pub record Countable (t : Tally) : Type 0 where
  pub records : t.records + 1 < 2 ^ 64
  pub fields : t.fields + 1 < 2 ^ 64
  pub values : t.values + 1 < 2 ^ 64

-- the refusal of a field that was not read
abbrev pub handed_on : Result Field Misfit → Table
handed_on (Ok f) = refused causes.Form f.next
handed_on (Err m) = refused causes.Form m.place

-- a file is gone through: the answer, and the fields in file order in the cells, where the file has the form
pub record Scanned (kind : Kind) (s : List ℕ) (cells cells' : List ℤ) (answer : Table) : Type 0 where
  pub answered : answer ≡ table_of kind s
  pub some : (records fields : ℕ) → answer ≡ shaped records fields → (0 < records) × (0 < fields)
  pub stored : (rs : List (List ℤ)) → length s ≤ 65536 → form_of kind s ≡ whole rs → cells' ≡ sets cells 0 (in_order rs)

-- a file is read: the answer, and each cell; `some` follows from the answer
pub record TableRead (kind : Kind) (s : List ℕ) (cells cells' : List ℤ) (answer : Table) : Type 0 where
  pub answered : answer ≡ table_of kind s
  pub some : (records fields : ℕ) → answer ≡ shaped records fields → (0 < records) × (0 < fields)
  pub stored : cells' ≡ fields_stored (table_of kind s) (form_of kind s) cells
