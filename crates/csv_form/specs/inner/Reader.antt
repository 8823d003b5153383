-- What the reader answers at a field (`field_at`) and after one (`after_at`), and what that means for the rest of the run. Assumes nothing.
use Rattle.std.specs.Prelude.{◌≡◌, Bool, true, false, ◌||◌, List, [], ℕ, zero, suc, ◌+◌, ◌*◌, ◌≤◌, ◌<◌, ◌^◌, eqb, ltb, ℤ, pos, length, get_or, drop, Option, Some, None, Result, Ok, Err}
use Rattle.csv_form.specs.declared.Kind.{Kind}
use Rattle.csv_form.specs.declared.Kind.TheVariants.{Tariff, Production}
use Rattle.csv_form.specs.declared.field.Digits.{Digits}
use Rattle.csv_form.specs.declared.Misfit.{Misfit}
use Rattle.csv_form.specs.declared.field.Field as answers
use Rattle.csv_form.specs.declared.after.After as after-answer
use Rattle.csv_form.specs.declared.after.After.TheVariants as after-answers
use Rattle.csv_form.specs.Form.{
  Mark,
  digit,
  minus,
  quote,
  comma,
  cr,
  lf,
  other,
  mark,
  State,
  field,
  field_or_empty,
  bare,
  quoted,
  closed,
  bare_cost,
  quoted_cost,
  closed_cost,
  line_end,
  last_line_end,
  after_comma,
}
use Rattle.csv_form.specs.Records.{Reading, reading, run, signed, row_with, rows_with, is_first, Form, whole, broken}

-- the digit that a mark is, or 10
abbrev pub digit_or10 : Mark → ℕ
digit_or10 (digit d) = d
digit_or10 minus = 10
digit_or10 quote = 10
digit_or10 comma = 10
digit_or10 cr = 10
digit_or10 lf = 10
digit_or10 other = 10

-- the digit that a mark is, if it is one
abbrev pub digit_of : Mark → Option ℕ
digit_of (digit d) = Some d
digit_of minus = None
digit_of quote = None
digit_of comma = None
digit_of cr = None
digit_of lf = None
digit_of other = None

-- what is read at a field, and what stands after one; or the offset that is refused
abbrev pub FieldAnswer : Type 0
FieldAnswer = Result answers.Field Misfit

abbrev pub AfterAnswer : Type 0
AfterAnswer = Result after-answer.After Misfit

abbrev pub read : ℕ → Bool → ℕ → FieldAnswer
read value' minus' next' = Ok (record { value = value'; minus = minus'; next = next' })

abbrev pub misfit : {T : Type 0} → ℕ → Result T Misfit
misfit place' = Err (record { place = place' })

-- whether a mark is a minus that may stand before a number: in the tariff
abbrev pub is_minus : Kind → Mark → Bool
is_minus Production m = false
is_minus Tariff (digit d) = false
is_minus Tariff minus = true
is_minus Tariff quote = false
is_minus Tariff comma = false
is_minus Tariff cr = false
is_minus Tariff lf = false
is_minus Tariff other = false

-- in a field's digits: quoted or bare, after a minus or not
abbrev pub within : Bool → Bool → ℕ → State
within true false left = quoted left
within false false left = bare left
within true true left = quoted_cost left
within false true left = bare_cost left

-- after a field with a minus or without
abbrev pub closed_as : Bool → State
closed_as true = closed_cost
closed_as false = closed

-- the digits from an offset on, ten at most, are read up to next, and no digit can follow there
pub record DigitsRead (s : List ℕ) (at value next : ℕ) : Type 0 where
  pub from : at ≤ next
  pub upto : next ≤ length s
  pub small : value < 10 ^ 10
  pub some : digit_or10 (mark (get_or s at 0)) ≤ 9 → at < next
  pub meaning :
      (kind : Kind) (q m b : Bool) (r : List ℤ) (rs : List (List ℤ)) →
      run kind at (reading (within q m 10) 0 m b r rs) (drop at s) ≡ run kind next (reading (within q m 0) value m b r rs) (drop next s)

-- whether a number begins there, after a minus or not: with a digit other than 0, or, after no minus, with a 0 that no digit follows. d and e are
-- the digits at two offsets, or 10
abbrev pub pick_bool : Bool → Bool → Bool → Bool
pick_bool true a b = a
pick_bool false a b = b

abbrev pub number_from : Bool → ℕ → ℕ → Bool
number_from m d e = pick_bool (ltb 9 d) false (pick_bool (ltb 0 d) true (pick_bool m false (ltb 9 e)))

abbrev pub number_at : Bool → List ℕ → ℕ → Bool
number_at m s at = number_from m (digit_or10 (mark (get_or s at 0))) (digit_or10 (mark (get_or s (at + 1) 0)))

-- a number, after a minus or not: its digits are read, or there is none
abbrev pub NumberRead : Bool → List ℕ → ℕ → FieldAnswer → Type 0
NumberRead m s at (Ok f) = (f.minus ≡ m) × (number_at m s at ≡ true) × DigitsRead s at f.value f.next
NumberRead m s at (Err e) = (e.place ≡ at) × (number_at m s at ≡ false)

-- a number and the quote that closes it
abbrev pub pick_field : Bool → FieldAnswer → FieldAnswer → FieldAnswer
pick_field true a b = a
pick_field false a b = b

abbrev pub close_quote : List ℕ → FieldAnswer → FieldAnswer
close_quote s (Ok f) = pick_field (eqb (get_or s f.next 0) 34) (read f.value f.minus (f.next + 1)) (misfit f.next)
close_quote s (Err e) = Err e

-- the digits from an offset on, so many at most, after digits that make the value
abbrev pub digits_to : ℕ → ℕ → Digits
digits_to value' next' = record { value = value'; next = next' }

abbrev pub pick_digits : Bool → Digits → Digits → Digits
pick_digits true a b = a
pick_digits false a b = b

unfoldable pub digits_from : ℕ → List ℕ → ℕ → ℕ → Digits
digits_from zero s value next = digits_to value next
digits_from (suc left) s value next =
    pick_digits (ltb 9 (digit_or10 (mark (get_or s next 0)))) (digits_to value next) (digits_from left s (value * 10 + digit_or10 (mark (get_or s next 0))) (next + 1))

abbrev pub valued : Bool → Digits → FieldAnswer
valued m d = read d.value m d.next

-- the number at an offset, after a minus or not
unfoldable pub number_of : Bool → List ℕ → ℕ → FieldAnswer
number_of m s at = pick_field (number_at m s at) (valued m (digits_from 10 s 0 at)) (misfit at)

-- the number at an offset with the minus before it, if there is one
unfoldable pub signed_at : Kind → List ℕ → ℕ → FieldAnswer
signed_at kind s at = pick_field (is_minus kind (mark (get_or s at 0))) (number_of true s (at + 1)) (number_of false s at)

-- the answer at a field: its value, whether it has a minus, and the next offset, or the place of refusal 21
unfoldable pub field_at : Kind → List ℕ → ℕ → FieldAnswer
field_at kind s at = pick_field (eqb (get_or s at 0) 34) (close_quote s (signed_at kind s (at + 1))) (signed_at kind s at)

-- a field's answer: a value is read, and the run goes on after it; or it is broken
abbrev pub on_field : Kind → Bool → List ℤ → List (List ℤ) → List ℕ → FieldAnswer → Form
on_field kind b r rs s (Ok f) = run kind f.next (reading (closed_as f.minus) f.value f.minus (f.minus || b) r rs) (drop f.next s)
on_field kind b r rs s (Err e) = broken e.place

abbrev pub field_ends : List ℕ → ℕ → FieldAnswer → Type 0
field_ends s at (Ok f) = (at < f.next) × (f.next ≤ length s) × (f.value < 10 ^ 10)
field_ends s at (Err e) = Unit {0}

pub record FieldRead (kind : Kind) (from : State) (s : List ℕ) (at : ℕ) (answer : FieldAnswer) : Type 0 where
  pub ends : field_ends s at answer
  pub meaning :
      (b : Bool) (r : List ℤ) (rs : List (List ℤ)) → run kind at (reading from 0 false b r rs) (drop at s) ≡ on_field kind b r rs s answer

-- what stands after a field that is z
abbrev pub on_after : Kind → ℤ → Bool → List ℤ → List (List ℤ) → List ℕ → AfterAnswer → Form
on_after kind z b r rs s (Ok (after-answers.Field next)) = run kind next (reading field 0 false b (row_with z r) rs) (drop next s)
on_after kind z b r rs s (Ok (after-answers.Record next)) = run kind next (reading field 0 false false [] (rows_with z r rs)) (drop next s)
on_after kind z b r rs s (Ok after-answers.End) = whole (rows_with z r rs)
on_after kind z b r rs s (Ok after-answers.Empty) = whole (rows_with (pos 0) (row_with z r) rs)
on_after kind z b r rs s (Err e) = broken e.place

abbrev pub after_ends : List ℕ → ℕ → AfterAnswer → Type 0
after_ends s at (Ok (after-answers.Field next)) = (at ≤ next) × (next ≤ length s)
after_ends s at (Ok (after-answers.Record next)) = (at ≤ next) × (next ≤ length s)
after_ends s at (Ok after-answers.End) = Unit {0}
after_ends s at (Ok after-answers.Empty) = Unit {0}
after_ends s at (Err e) = Unit {0}

-- where one stands after a field of the value v, with a minus or not: after the field, the same with a minus, after its comma, the same in a record
-- of the tariff that may be the demands', after its CR, and after the CR of the demands
abbrev pub From : Type 0
From = Kind → Bool → ℕ → Bool → List ℤ → List (List ℤ) → Reading

abbrev pub at_field : From
at_field kind m v b r rs = reading (closed_as m) v m b r rs

abbrev pub at_cost : From
at_cost kind m v b r rs = reading closed_cost v m b r rs

abbrev pub at_comma : From
at_comma kind m v b r rs = reading (after_comma kind (b || is_first rs)) 0 false b (row_with (signed m v) r) rs

abbrev pub at_demand : From
at_demand kind m v b r rs = reading field_or_empty 0 false b (row_with (signed m v) r) rs

abbrev pub at_cr : From
at_cr kind m v b r rs = reading line_end 0 false false [] (rows_with (signed m v) r rs)

abbrev pub at_last_cr : From
at_last_cr kind m v b r rs = reading last_line_end 0 false false [] (rows_with (pos 0) (row_with (signed m v) r) rs)

-- what is known of the field and of its record: nothing; whether the record is known to be a source's; that, and whether the field has a minus
abbrev pub Any : Bool → Bool → List (List ℤ) → Type 0
Any m b rs = Unit {0}

abbrev pub Source : Bool → Bool → Bool → List (List ℤ) → Type 0
Source source m b rs = (b || is_first rs) ≡ source

abbrev pub Known : Bool → Bool → Bool → Bool → List (List ℤ) → Type 0
Known minus' source m b rs = (m ≡ minus') × ((b || is_first rs) ≡ source)

pub record AfterRead (from : From) (Before : Bool → Bool → List (List ℤ) → Type 0) (kind : Kind) (s : List ℕ) (at : ℕ) (answer : AfterAnswer) : Type 0 where
  pub ends : after_ends s at answer
  pub meaning :
      (m : Bool) (v : ℕ) (b : Bool) (r : List ℤ) (rs : List (List ℤ)) → Before m b rs →
      run kind at (from kind m v b r rs) (drop at s) ≡ on_after kind (signed m v) b r rs s answer

-- where the file ends after a field without a minus
abbrev pub at_last : Kind → ℕ → AfterAnswer
at_last Tariff at = misfit at
at_last Production at = (Ok after-answers.End)

abbrev pub pick_after : Bool → AfterAnswer → AfterAnswer → AfterAnswer
pick_after true a b = a
pick_after false a b = b

-- whether the byte at an offset is b
abbrev pub byte_is : List ℕ → ℕ → ℕ → Bool
byte_is s at b = eqb (get_or s at 0) b

-- after a field with a minus; after the CR of the demands; after a comma in a record that may be the demands'
unfoldable pub cost_at : List ℕ → ℕ → AfterAnswer
cost_at s at = pick_after (byte_is s at 44) (Ok (after-answers.Field (at + 1))) (misfit at)

unfoldable pub last_at : List ℕ → ℕ → AfterAnswer
last_at s at = pick_after (byte_is s at 10) (pick_after (ltb (at + 1) (length s)) (misfit (at + 1)) (Ok after-answers.Empty)) (misfit at)

unfoldable pub demand_at : List ℕ → ℕ → AfterAnswer
demand_at s at = pick_after (ltb at (length s)) (pick_after (byte_is s at 13) (last_at s (at + 1)) (Ok (after-answers.Field at))) (Ok after-answers.Empty)

-- after a comma, in a record that is known to be a source's or not
unfoldable pub comma_at : Kind → Bool → List ℕ → ℕ → AfterAnswer
comma_at Production source s at = Ok (after-answers.Field at)
comma_at Tariff true s at = Ok (after-answers.Field at)
comma_at Tariff false s at = demand_at s at

-- after the line end of a record, after its CR
unfoldable pub line_at : Kind → List ℕ → ℕ → AfterAnswer
line_at Tariff s at = Ok (after-answers.Record at)
line_at Production s at = pick_after (ltb at (length s)) (Ok (after-answers.Record at)) (Ok after-answers.End)

unfoldable pub record_at : Kind → List ℕ → ℕ → AfterAnswer
record_at kind s at = pick_after (byte_is s at 10) (line_at kind s (at + 1)) (misfit at)

-- after a field without a minus
unfoldable pub plain_at : Kind → Bool → List ℕ → ℕ → AfterAnswer
plain_at kind source s at =
    pick_after (ltb at (length s))
    (pick_after (byte_is s at 44) (comma_at kind source s (at + 1)) (pick_after (byte_is s at 13) (record_at kind s (at + 1)) (misfit at)))
    (at_last kind at)

-- the answer after a field: with a minus or not, in a record that is known to be a source's or not
unfoldable pub after_at : Kind → Bool → Bool → List ℕ → ℕ → AfterAnswer
after_at kind true source s at = cost_at s at
after_at kind false source s at = plain_at kind source s at
