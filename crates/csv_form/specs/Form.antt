-- The form of the two files (RFC 4180 without a header), as an automaton over their bytes: a state, and for each byte the next state, or none
-- where no file of the form has that byte there. Field counts are not judged here. Assumes nothing.
use Rattle.std.specs.Prelude.{Bool, true, false, ◌&&◌, ℕ, zero, suc, ◌-◌, leb, eqb}
use Rattle.std.proofs.Math.Option.{Option, none, some}
use Rattle.csv_form.specs.declared.Kind.{Kind}
use Rattle.csv_form.specs.declared.Kind.TheVariants.{Tariff, Production}

-- what a byte is to the form
pub data Mark : Type 0 where
  digit : ℕ → Mark
  minus quote comma cr lf other : Mark

abbrev pub pick_mark : Bool → Mark → Mark → Mark
pick_mark true a b = a
pick_mark false a b = b

unfoldable pub mark : ℕ → Mark
mark b =
    pick_mark (leb 48 b && leb b 57) (digit (b - 48))
    (pick_mark (eqb b 45) minus (pick_mark (eqb b 34) quote (pick_mark (eqb b 44) comma (pick_mark (eqb b 13) cr (pick_mark (eqb b 10) lf other)))))

-- where in a file one may stand
pub data State : Type 0 where
  -- a field begins here
  field : State
  -- tariff, after a comma of a record that may be the demands': a field, or the empty last field of the demands
  field_or_empty : State
  -- production, after a line end: a further record, or the end of the file
  record_or_end : State
  -- after the quote that opens a field
  opened : State
  -- in a bare field, in a quoted field: how many digits more it may have
  bare : ℕ → State
  quoted : ℕ → State
  -- after a 0 that a number begins with, bare or quoted: the number is 0, and a digit after it makes that 0 wrong
  zeroBare zeroQuoted : State
  -- after the quote that closes a field
  closed : State
  -- after a minus, bare or behind the quote that opens a field
  minusBare minusQuoted : State
  -- in a cost with a minus, bare or quoted, and after the quote that closes it: a further field of the record comes after it
  bare_cost : ℕ → State
  quoted_cost : ℕ → State
  closed_cost : State
  -- after the CR of a record, after the CR of the demands
  line_end : State
  last_line_end : State
  -- after the line end of the demands
  done : State

-- one more digit
unfoldable pub more : (ℕ → State) → ℕ → Option State
more within zero = none
more within (suc left) = some (within left)

-- the first digit of a number: a 0, or another
unfoldable pub leading : Option State → State → ℕ → Option State
leading zero' other' zero = zero'
leading zero' other' (suc k) = some other'

-- any digit, where none can stand
abbrev pub no_digit : ℕ → Option State
no_digit k = none

-- the last record of a tariff is the demands'; the first is a source's, and so is one with a minus
unfoldable pub after_comma : Kind → Bool → State
after_comma Production source = field
after_comma Tariff true = field
after_comma Tariff false = field_or_empty

unfoldable pub after_line : Kind → State
after_line Production = record_or_end
after_line Tariff = field

-- a tariff alone has minus signs
unfoldable pub in_tariff : Kind → State → Option State
in_tariff Tariff s = some s
in_tariff Production s = none

-- a line of the table below: the next state for each mark; no file has any other byte
abbrev pub row : (ℕ → Option State) → Option State → Option State → Option State → Option State → Option State → Mark → Option State
row d m q c r l (digit k) = d k
row d m q c r l minus = m
row d m q c r l quote = q
row d m q c r l comma = c
row d m q c r l cr = r
row d m q c r l lf = l
row d m q c r l other = none

-- the automaton; `source` says that this record is known to be a source's: no record stands before it, or it has a minus
-- a number of two or more digits has no 0 in front, and no number after a minus has one
--                                 a digit                                  a minus                     a quote          a comma                             CR                  LF
unfoldable pub step : Kind → Bool → State → Mark → Option State
step kind source field = row (leading (some zeroBare) (bare 9)) (in_tariff kind minusBare) (some opened) none none none
step kind source field_or_empty = row (leading (some zeroBare) (bare 9)) (in_tariff kind minusBare) (some opened) none (some last_line_end) none
step kind source record_or_end = row (leading (some zeroBare) (bare 9)) none (some opened) none none none
step kind source opened = row (leading (some zeroQuoted) (quoted 9)) (in_tariff kind minusQuoted) none none none none
step kind source (bare left) = row (λ k. more bare left) none none (some (after_comma kind source)) (some line_end) none
step kind source (quoted left) = row (λ k. more quoted left) none (some closed) none none none
step kind source zeroBare = row no_digit none none (some (after_comma kind source)) (some line_end) none
step kind source zeroQuoted = row no_digit none (some closed) none none none
step kind source closed = row no_digit none none (some (after_comma kind source)) (some line_end) none
step kind source minusBare = row (leading none (bare_cost 9)) none none none none none
step kind source minusQuoted = row (leading none (quoted_cost 9)) none none none none none
step kind source (bare_cost left) = row (λ k. more bare_cost left) none none (some field) none none
step kind source (quoted_cost left) = row (λ k. more quoted_cost left) none (some closed_cost) none none none
step kind source closed_cost = row no_digit none none (some field) none none
step kind source line_end = row no_digit none none none none (some (after_line kind))
step kind source last_line_end = row no_digit none none none none (some done)
step kind source done = row no_digit none none none none none

-- the place of refusal 21 where a byte at an offset has no next state: that byte; but of a digit after a 0 that a number begins with, the 0
abbrev pub after_zero : Mark → ℕ → ℕ
after_zero (digit k) at = at - 1
after_zero minus at = at
after_zero quote at = at
after_zero comma at = at
after_zero cr at = at
after_zero lf at = at
after_zero other at = at

abbrev pub place_of : State → Mark → ℕ → ℕ
place_of field m at = at
place_of field_or_empty m at = at
place_of record_or_end m at = at
place_of opened m at = at
place_of (bare left) m at = at
place_of (quoted left) m at = at
place_of zeroBare m at = after_zero m at
place_of zeroQuoted m at = after_zero m at
place_of closed m at = at
place_of minusBare m at = at
place_of minusQuoted m at = at
place_of (bare_cost left) m at = at
place_of (quoted_cost left) m at = at
place_of closed_cost m at = at
place_of line_end m at = at
place_of last_line_end m at = at
place_of done m at = at

unfoldable pub is_production : Kind → Bool
is_production Production = true
is_production Tariff = false

-- whether the file may end there
unfoldable pub may_end : Kind → State → Bool
may_end kind field = false
may_end kind field_or_empty = true
may_end kind record_or_end = true
may_end kind opened = false
may_end kind (bare left) = is_production kind
may_end kind (quoted left) = false
may_end kind zeroBare = is_production kind
may_end kind zeroQuoted = false
may_end kind closed = is_production kind
may_end kind minusBare = false
may_end kind minusQuoted = false
may_end kind (bare_cost left) = false
may_end kind (quoted_cost left) = false
may_end kind closed_cost = false
may_end kind line_end = false
may_end kind last_line_end = false
may_end kind done = true
