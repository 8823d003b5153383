-- The case that the records of two files are, and what the reader of a case stores. Assumes nothing.
use Rattle.std.specs.Prelude.{◌≡◌, List, [], ◌∷◌, ◌++◌, map, ℕ, zero, suc, ◌+◌, ◌-◌, ◌*◌, ◌≤◌, ℤ, pos, nat_abs, length, get_or, take, drop, Result, Ok, Err}
use Rattle.std.proofs.lemmas.List.Edits.{sets}
use Rattle.csv_form.specs.declared.Kind.TheVariants.{Tariff, Production}
use Rattle.csv_case.specs.declared.case.CaseShape.{CaseShape}
use Rattle.refusal.specs.declared.Refusal.{Refusal}
use Rattle.csv_form.specs.Records.{Form, whole, broken, form_of}
use Rattle.csv_table.specs.Files.{Table, wanted, table_of, in_order}

-- the records of a file, none where it has not the form
abbrev pub records_of : Form → List (List ℤ)
records_of (whole rs) = rs
records_of (broken place) = []

-- m and n of a tariff: a record for each source, n costs and then the supply; then the demands, with an empty last field
unfoldable pub sources_in : List (List ℤ) → ℕ
sources_in rs = length rs - 1

unfoldable pub terminals_in : List (List ℤ) → ℕ
terminals_in rs = wanted Tariff rs - 1

unfoldable pub source_records : List (List ℤ) → List (List ℤ)
source_records rs = take (sources_in rs) rs

-- the unit costs in row order
unfoldable pub costs_in : List (List ℤ) → List ℤ
costs_in rs = in_order (map (λ (r : List ℤ). take (terminals_in rs) r) (source_records rs))

-- a supply, a demand and an entry have no minus (`Signs.plain`), so each is its size
unfoldable pub supplies_in : List (List ℤ) → List ℕ
supplies_in rs = map (λ (r : List ℤ). nat_abs (get_or r (terminals_in rs) (pos 0))) (source_records rs)

unfoldable pub demands_in : List (List ℤ) → List ℕ
demands_in rs = map nat_abs (take (terminals_in rs) (get_or rs (sources_in rs) []))

unfoldable pub entries_in : List (List ℤ) → List ℕ
entries_in qs = map nat_abs (in_order qs)

-- the counts of a case, or a refusal
abbrev pub CaseAnswer : Type 0
CaseAnswer = Result CaseShape Refusal

abbrev pub counts : ℕ → ℕ → ℕ → CaseAnswer
counts m' n' entries' = Ok (record { m = m'; n = n'; entries = entries' })

-- the tariff is judged by 20 to 22, then the production file; the counts are m, n and the count of entries
abbrev pub answer_of : Table → Table → CaseAnswer
answer_of (Err r) p = Err r
answer_of (Ok t) (Err r) = Err r
answer_of (Ok t) (Ok p) = counts (t.records - 1) (t.fields - 1) p.records

unfoldable pub case_answer : List ℕ → List ℕ → CaseAnswer
case_answer t p = answer_of (table_of Tariff t) (table_of Production p)

-- n costs of each of m records of n + 1 fields that lie one after the other, and the field after them
unfoldable pub cost_rows : ℕ → ℕ → List ℤ → List ℤ
cost_rows zero n l = []
cost_rows (suc m) n l = take n l ++ cost_rows m n (drop (n + 1) l)

unfoldable pub supply_rows : ℕ → ℕ → List ℤ → List ℕ
supply_rows zero n l = []
supply_rows (suc m) n l = nat_abs (get_or l n (pos 0)) ∷ supply_rows m n (drop (n + 1) l)

-- the cells for a tariff keep their contents
pub record TariffKept (costs : List ℤ) (supplies demands : List ℕ) (costs' : List ℤ) (supplies' demands' : List ℕ) : Type 0 where
  pub costs_kept : costs' ≡ costs
  pub supplies_kept : supplies' ≡ supplies
  pub demands_kept : demands' ≡ demands

-- the fields of a tariff of at most 32 sources and 64 terminals, in file order in the cells, are shared out; nothing is stored of a larger one
pub record Shared (m n : ℕ) (cells costs : List ℤ) (supplies demands : List ℕ) (costs' : List ℤ) (supplies' demands' : List ℕ) : Type 0 where
  pub costs_shared : m ≤ 32 → n ≤ 64 → costs' ≡ sets costs 0 (cost_rows m n cells)
  pub supplies_shared : m ≤ 32 → n ≤ 64 → supplies' ≡ sets supplies 0 (supply_rows m n cells)
  pub demands_shared : m ≤ 32 → n ≤ 64 → demands' ≡ sets demands 0 (map nat_abs (take n (drop (m * (n + 1)) cells)))
  pub large_kept : (m ≤ 32 → n ≤ 64 → ⊥) → TariffKept costs supplies demands costs' supplies' demands'

-- the case is stored, as far as there are cells
pub record TariffStored (rs : List (List ℤ)) (costs : List ℤ) (supplies demands : List ℕ) (costs' : List ℤ) (supplies' demands' : List ℕ) : Type 0 where
  pub costs_stored : costs' ≡ sets costs 0 (costs_in rs)
  pub supplies_stored : supplies' ≡ sets supplies 0 (supplies_in rs)
  pub demands_stored : demands' ≡ sets demands 0 (demands_in rs)

-- what the reader of a case answers, and each cell: of a tariff of more than 32 sources or 64 terminals nothing is stored, of the entries 4,002 at
-- most; a refusal changes no cell
pub record CaseStored (t p : List ℕ) (costs : List ℤ) (supplies demands table : List ℕ) (costs' : List ℤ) (supplies' demands' table' : List ℕ) (answer : CaseAnswer) : Type 0 where
  pub answered : answer ≡ case_answer t p
  pub tariff_stored :
      (rs : List (List ℤ)) (m n entries : ℕ) → form_of Tariff t ≡ whole rs → answer ≡ counts m n entries → m ≤ 32 → n ≤ 64 →
      TariffStored rs costs supplies demands costs' supplies' demands'
  pub large_kept : (m n entries : ℕ) → answer ≡ counts m n entries → (m ≤ 32 → n ≤ 64 → ⊥) → TariffKept costs supplies demands costs' supplies' demands'
  pub table_stored : (qs : List (List ℤ)) (m n entries : ℕ) → form_of Production p ≡ whole qs → answer ≡ counts m n entries → table' ≡ sets table 0 (take 4002 (entries_in qs))
  pub refused_kept : (r : Refusal) → answer ≡ Err r → TariffKept costs supplies demands costs' supplies' demands'
  pub table_kept : (r : Refusal) → answer ≡ Err r → table' ≡ table
