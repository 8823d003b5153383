-- The form of the two files as document 01 and W-206, W-208 have it: records and fields, with their bytes and their numbers. Field counts are not
-- judged here (refusal 22). Assumes nothing.
use Rattle.std.specs.Prelude.{◌≡◌, Bool, true, false, List, [], ◌∷◌, ◌++◌, map, ℕ, ◌+◌, ◌*◌, ◌≤◌, ◌<◌, ℤ, pos, neg_ℤ, length, get_or}
use Rattle.csv_form.specs.declared.Kind.{Kind}
use Rattle.csv_form.specs.declared.Kind.TheVariants.{Tariff, Production}

-- what holds of each element
abbrev pub Each : {A : Type 0} → (A → Type 0) → List A → Type 0
Each P [] = Unit {0}
Each P (x ∷ xs) = P x × Each P xs

-- ---- a number: 1 to 10 digits; of several the first is not 0
abbrev pub Digit : ℕ → Type 0
Digit d = d ≤ 9

pub record IsNumber (digits : List ℕ) : Type 0 where
  pub some : 1 ≤ length digits
  pub few : length digits ≤ 10
  pub each : Each Digit digits
  pub no_zero : 1 < length digits → 0 < get_or digits 0 0

-- the number that digits make after a number
unfoldable pub value_after : ℕ → List ℕ → ℕ
value_after v [] = v
value_after v (d ∷ ds) = value_after (v * 10 + d) ds

-- ---- a field: bare or in double quotes, with a minus before its digits or none
pub record Field : Type 0 where
  pub quoted : Bool
  pub negative : Bool
  pub digits : List ℕ

-- no minus stands before a 0
pub record IsField (f : Field) : Type 0 where
  pub number : IsNumber f.digits
  pub no_minus_zero : f.negative ≡ true → 0 < get_or f.digits 0 0

-- a supply, a demand or an entry: no minus
pub record IsPlain (f : Field) : Type 0 where
  pub is : IsField f
  pub plain : f.negative ≡ false

abbrev pub signed : Bool → ℕ → ℤ
signed true v = neg_ℤ (pos v)
signed false v = pos v

abbrev pub number_in : Field → ℤ
number_in f = signed f.negative (value_after 0 f.digits)

-- its bytes: 34 is a double quote, 45 a minus, 48 the digit 0
abbrev pub digit_text : ℕ → ℕ
digit_text d = 48 + d

abbrev pub sign_text : Bool → List ℕ
sign_text true = 45 ∷ []
sign_text false = []

abbrev pub in_quotes : Bool → List ℕ → List ℕ
in_quotes true l = 34 ∷ (l ++ (34 ∷ []))
in_quotes false l = l

unfoldable pub field_text : Field → List ℕ
field_text f = in_quotes f.quoted (sign_text f.negative ++ map digit_text f.digits)

-- ---- a record: fields with commas (44) between them
unfoldable pub record_text : Field → List Field → List ℕ
record_text f [] = field_text f
record_text f (g ∷ fs) = field_text f ++ (44 ∷ record_text g fs)

-- the last field of a source's record is the supply; the costs before it may have a minus
abbrev pub IsSource : Field → List Field → Type 0
IsSource f [] = IsPlain f
IsSource f (g ∷ fs) = IsField f × IsSource g fs

pub record Row : Type 0 where
  pub first : Field
  pub others : List Field

abbrev pub fields_of : Row → List Field
fields_of r = r.first ∷ r.others

abbrev pub SourceRow : Row → Type 0
SourceRow r = IsSource r.first r.others

abbrev pub PlainRow : Row → Type 0
PlainRow r = Each IsPlain (fields_of r)

abbrev pub row_text : Row → List ℕ
row_text r = record_text r.first r.others

abbrev pub numbers_in : Row → List ℤ
numbers_in r = map number_in (fields_of r)

-- ---- a file: CR LF (13, 10) between records and optionally after the last
abbrev pub line_end : Bool → List ℕ
line_end true = 13 ∷ 10 ∷ []
line_end false = []

-- records before a last text
unfoldable pub lines_before : List Row → List ℕ → List ℕ
lines_before [] last = last
lines_before (r ∷ rs) last = row_text r ++ (13 ∷ 10 ∷ lines_before rs last)

-- tariff.csv: at least one source's record, then the demands', with an empty last field that has no quotes; the empty field is read as 0
pub record IsTariff (bytes : List ℕ) (records : List (List ℤ)) : Type 0 where
  pub first : Row
  pub others : List Row
  pub demands : Row
  pub ended : Bool
  pub sources : Each SourceRow (first ∷ others)
  pub plain : PlainRow demands
  pub text : bytes ≡ lines_before (first ∷ others) (row_text demands ++ (44 ∷ line_end ended))
  pub numbers : records ≡ map numbers_in (first ∷ others) ++ ((numbers_in demands ++ (pos 0 ∷ [])) ∷ [])

-- production.csv: at least one record, none with a minus
pub record IsProduction (bytes : List ℕ) (records : List (List ℤ)) : Type 0 where
  pub before : List Row
  pub last : Row
  pub ended : Bool
  pub plain : Each PlainRow before
  pub plain_last : PlainRow last
  pub text : bytes ≡ lines_before before (row_text last ++ line_end ended)
  pub numbers : records ≡ map numbers_in before ++ (numbers_in last ∷ [])

-- the bytes are a file of the form with these records
abbrev pub HasForm : Kind → List ℕ → List (List ℤ) → Type 0
HasForm Tariff bytes records = IsTariff bytes records
HasForm Production bytes records = IsProduction bytes records
