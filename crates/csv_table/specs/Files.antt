-- Refusals 20 to 22 of a file, and the table that a file is. Assumes nothing.
use Rattle.std.specs.Prelude.{Bool, true, false, List, [], ◌∷◌, ◌++◌, ℕ, zero, suc, eqb, ltb, ℤ, length, Result, Ok, Err}
use Rattle.std.proofs.lemmas.List.Edits.{sets}
use Rattle.csv_form.specs.declared.Kind.{Kind}
use Rattle.csv_form.specs.declared.Kind.TheVariants.{Tariff, Production}
use Rattle.csv_table.specs.declared.table.Shape.{Shape}
use Rattle.refusal.specs.declared.Cause.{Cause}
use Rattle.refusal.specs.declared.Cause.TheVariants as causes
use Rattle.refusal.specs.declared.Refusal.{Refusal}
use Rattle.csv_form.specs.Records.{Form, whole, broken, form_of}

-- a file's counts of records and of each one's fields, or a refusal
abbrev pub Table : Type 0
Table = Result Shape Refusal

abbrev pub shaped : ℕ → ℕ → Table
shaped records' fields' = Ok (record { records = records'; fields = fields' })

abbrev pub refused : {T : Type 0} → Cause → ℕ → Result T Refusal
refused cause' place' = Err (record { cause = cause'; place = place' })

abbrev pub pick : Bool → ℕ → ℕ → ℕ
pick true a b = a
pick false a b = b

-- how many fields each record is to have: one in the production file, in the tariff as many as the first record has
unfoldable pub wanted : Kind → List (List ℤ) → ℕ
wanted Production rs = 1
wanted Tariff [] = 0
wanted Tariff (r ∷ rs) = length r

-- the number of the first record with another field count than w, where the first record here has the number i; 0 where there is none
unfoldable pub odd_from : ℕ → ℕ → List (List ℤ) → ℕ
odd_from w i [] = 0
odd_from w i (r ∷ rs) = pick (eqb (length r) w) (odd_from w (suc i) rs) i

-- refusal 22 at the record that is odd; else the counts of records and of each one's fields
abbrev pub judged : ℕ → ℕ → ℕ → Table
judged zero records fields = shaped records fields
judged (suc odd) records fields = refused causes.Fields (suc odd)

-- refusals 21 and 22
unfoldable pub judge : Kind → Form → Table
judge kind (broken place) = refused causes.Form place
judge kind (whole rs) = judged (odd_from (wanted kind rs) 1 rs) (length rs) (wanted kind rs)

abbrev pub pick_table : Bool → Table → Table → Table
pick_table true a b = a
pick_table false a b = b

-- refusals 20, 21 and 22 in this order, or the file's counts
unfoldable pub table_of : Kind → List ℕ → Table
table_of kind l = pick_table (ltb 65536 (length l)) (refused causes.File 0) (judge kind (form_of kind l))

-- all fields in file order
unfoldable pub in_order : List (List ℤ) → List ℤ
in_order [] = []
in_order (r ∷ rs) = r ++ in_order rs

-- a file is not refused by 20 to 22
abbrev pub stands : Table → Bool
stands (Ok t) = true
stands (Err r) = false

-- the cells after reading: all fields in file order, as far as there are cells; a refusal changes none
abbrev pub fields_stored : Table → Form → List ℤ → List ℤ
fields_stored (Ok t) (whole rs) cells = sets cells 0 (in_order rs)
fields_stored (Ok t) (broken place) cells = cells
fields_stored (Err r) f cells = cells
