-- The records of a file, each a list of numbers, or the place of refusal 21. Assumes nothing.
use Rattle.std.specs.Prelude.{Bool, true, false, ◌||◌, List, [], ◌∷◌, ◌++◌, ℕ, suc, ◌+◌, ◌*◌, ℤ, pos, neg_ℤ}
use Rattle.std.proofs.Math.Option.{none, some}
use Rattle.csv_form.specs.declared.Kind.{Kind}
use Rattle.csv_form.specs.Form.{
  Mark,
  digit,
  minus,
  quote,
  comma,
  cr,
  lf,
  other,
  mark,
  State,
  field,
  field_or_empty,
  record_or_end,
  opened,
  bare,
  quoted,
  zeroBare,
  zeroQuoted,
  closed,
  minusBare,
  minusQuoted,
  bare_cost,
  quoted_cost,
  closed_cost,
  line_end,
  last_line_end,
  done,
  step,
  place_of,
  may_end,
}

-- what is read so far: the state, the number that the digits of this field make, whether it has a minus, whether this record has one, the fields of
-- this record before it, and the records before this one. The empty last field of the demands is read as 0.
pub record Reading : Type 0 where
  pub state : State
  pub value : ℕ
  pub negative : Bool
  pub rebate : Bool
  pub row : List ℤ
  pub rows : List (List ℤ)

abbrev pub reading : State → ℕ → Bool → Bool → List ℤ → List (List ℤ) → Reading
reading s v n b r rs = record { state = s; value = v; negative = n; rebate = b; row = r; rows = rs }

-- the number of a field
abbrev pub signed : Bool → ℕ → ℤ
signed true v = neg_ℤ (pos v)
signed false v = pos v

-- the fields of this record with the one that ends here, and the records with the one that ends here
abbrev pub row_with : ℤ → List ℤ → List ℤ
row_with z r = r ++ (z ∷ [])

abbrev pub rows_with : ℤ → List ℤ → List (List ℤ) → List (List ℤ)
rows_with z r rs = rs ++ (row_with z r ∷ [])

-- the number that this field is so far
abbrev pub number : Reading → ℤ
number r = signed r.negative r.value

-- a byte taken on the way to the state s: a comma ends a field, a CR ends a record
unfoldable pub absorb : Mark → State → Reading → Reading
absorb (digit d) s r = reading s (r.value * 10 + d) r.negative r.rebate r.row r.rows
absorb minus s r = reading s r.value true true r.row r.rows
absorb quote s r = reading s r.value r.negative r.rebate r.row r.rows
absorb comma s r = reading s 0 false r.rebate (row_with (number r) r.row) r.rows
absorb cr s r = reading s 0 false false [] (rows_with (number r) r.row r.rows)
absorb lf s r = reading s r.value r.negative r.rebate r.row r.rows
absorb other s r = reading s r.value r.negative r.rebate r.row r.rows

-- the records where the file ends: the last need have no line end
unfoldable pub records_at_end : State → Reading → List (List ℤ)
records_at_end field r = rows_with (number r) r.row r.rows
records_at_end field_or_empty r = rows_with (number r) r.row r.rows
records_at_end record_or_end r = r.rows
records_at_end opened r = rows_with (number r) r.row r.rows
records_at_end (bare left) r = rows_with (number r) r.row r.rows
records_at_end (quoted left) r = rows_with (number r) r.row r.rows
records_at_end zeroBare r = rows_with (number r) r.row r.rows
records_at_end zeroQuoted r = rows_with (number r) r.row r.rows
records_at_end closed r = rows_with (number r) r.row r.rows
records_at_end minusBare r = rows_with (number r) r.row r.rows
records_at_end minusQuoted r = rows_with (number r) r.row r.rows
records_at_end (bare_cost left) r = rows_with (number r) r.row r.rows
records_at_end (quoted_cost left) r = rows_with (number r) r.row r.rows
records_at_end closed_cost r = rows_with (number r) r.row r.rows
records_at_end line_end r = rows_with (number r) r.row r.rows
records_at_end last_line_end r = rows_with (number r) r.row r.rows
records_at_end done r = r.rows

-- a file of the form with its records, or the offset of the first byte that no file of the form could have there after the bytes before it, or of
-- the 0 before that byte where this is a digit and the 0 begins a number; the file's length where it ends too soon
pub data Form : Type 0 where
  whole : List (List ℤ) → Form
  broken : ℕ → Form

abbrev pub is_first : List (List ℤ) → Bool
is_first [] = true
is_first (r ∷ rs) = false

-- this record is known to be a source's
abbrev pub is_source : Reading → Bool
is_source r = r.rebate || is_first r.rows

-- reading on at an offset, where the bytes from there on are given
unfoldable pub run : Kind → ℕ → Reading → List ℕ → Form
run kind at r [] = elim (may_end kind r.state) [ true ↦ whole (records_at_end r.state r) | false ↦ broken at ]
run kind at r (b ∷ l) =
    elim (step kind (is_source r) r.state (mark b)) [ none ↦ broken (place_of r.state (mark b) at) | some s ↦ run kind (suc at) (absorb (mark b) s r) l ]

unfoldable pub form_of : Kind → List ℕ → Form
form_of kind l = run kind 0 (reading field 0 false false [] []) l
