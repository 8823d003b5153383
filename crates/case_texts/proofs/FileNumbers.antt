-- Every number of a file of the form has at most ten digits. Assumes nothing.
use mathlib.Core.Path.{◌≡◌, refl, sym, subst}
use mathlib.Core.Bool.{Bool, true, false}
use mathlib.Core.Option.{Option, none, some}
use mathlib.Core.List.{List, [], ◌∷◌, ◌++◌, map}
use Prim.Native.Nat.{ℕ, zero, suc, ◌+◌, ◌*◌, ◌-◌, ◌≤◌, ◌<◌, ◌^◌}
use native.Mathlib.Omega.{arith}
use native.Mathlib.Decide.{dec_le}
use native.Mathlib.Nat.{pow-suc, pow-le-pow_right}
use lib.IntN.{ℤ, nat_abs}
use lib.ListN.{length, get_or}
use Rattle.csv_form.specs.declared.Kind.{Kind}
use Rattle.csv_form.specs.declared.Kind.TheVariants.{Tariff, Production}
use Rattle.csv_form.specs.Form.{Mark, digit, minus, quote, comma, cr, lf, other, mark, State, field, field_or_empty, record_or_end, opened, bare, quoted}
use Rattle.csv_form.specs.Form.{zeroBare, zeroQuoted, closed, minusBare, minusQuoted, bare_cost, quoted_cost, closed_cost, line_end, last_line_end, done}
use Rattle.csv_form.specs.Form.{row, step, place_of, leading, more, in_tariff, may_end, after_comma, after_line}
use Rattle.csv_form.specs.Records.{Reading, reading, run, absorb, signed, number, records_at_end, is_source, row_with, rows_with, Form, whole, broken, form_of}
use Rattle.csv_table.specs.Files.{in_order}
use Rattle.csv_form.proofs.ByteMarks.{NotDigit, mark_digit, below_digit, above_digit}

-- a digit is at most 9
abbrev Low : Mark → Type 0
Low (digit d) = d ≤ 9
Low minus = Unit {0}
Low quote = Unit {0}
Low comma = Unit {0}
Low cr = Unit {0}
Low lf = Unit {0}
Low other = Unit {0}

low_other : (m : Mark) → NotDigit m → Low m
low_other (digit d) h = absurd h
low_other minus h = tt
low_other quote h = tt
low_other comma h = tt
low_other cr h = tt
low_other lf h = tt
low_other other h = tt

low : (b : ℕ) → Low (mark b)
low b =
    elim (dec_le 48 b) [
      | yes lo ↦ elim (dec_le b 57) [
        | yes hi ↦ subst (λ (m : Mark). Low m) (sym (mark_digit b lo hi)) (let h : b - 48 ≤ 9 = omega arith in h)
        | no hi ↦ low_other (mark b) (above_digit b (omega arith))
      ]
      | no lo ↦ low_other (mark b) (below_digit b (omega arith))
    ]

-- the number so far, by the state
abbrev Value : State → ℕ → Type 0
Value field v = v ≡ 0
Value field_or_empty v = v ≡ 0
Value record_or_end v = v ≡ 0
Value opened v = v ≡ 0
Value (bare left) v = (left ≤ 9) × (v < 10 ^ (10 - left))
Value (quoted left) v = (left ≤ 9) × (v < 10 ^ (10 - left))
Value zeroBare v = v ≡ 0
Value zeroQuoted v = v ≡ 0
Value closed v = v ≤ 9999999999
Value minusBare v = v ≡ 0
Value minusQuoted v = v ≡ 0
Value (bare_cost left) v = (left ≤ 9) × (v < 10 ^ (10 - left))
Value (quoted_cost left) v = (left ≤ 9) × (v < 10 ^ (10 - left))
Value closed_cost v = v ≤ 9999999999
Value line_end v = v ≡ 0
Value last_line_end v = v ≡ 0
Value done v = v ≡ 0

digits_small : (left v : ℕ) → (left ≤ 9) × (v < 10 ^ (10 - left)) → v ≤ 9999999999
digits_small left v h =
    let p : 10 ^ (10 - left) ≤ 10 ^ 10 = pow-le-pow_right {n = 10} (omega arith) {i = 10 - left} {j = 10} (omega arith) in
    omega (arith, p, h.1)

value_small : (s : State) (v : ℕ) → Value s v → v ≤ 9999999999
value_small field v h = omega arith
value_small field_or_empty v h = omega arith
value_small record_or_end v h = omega arith
value_small opened v h = omega arith
value_small (bare left) v h = digits_small left v h
value_small (quoted left) v h = digits_small left v h
value_small zeroBare v h = omega arith
value_small zeroQuoted v h = omega arith
value_small closed v h = h
value_small minusBare v h = omega arith
value_small minusQuoted v h = omega arith
value_small (bare_cost left) v h = digits_small left v h
value_small (quoted_cost left) v h = digits_small left v h
value_small closed_cost v h = h
value_small line_end v h = omega arith
value_small last_line_end v h = omega arith
value_small done v h = omega arith

-- the number after a byte
abbrev after : Mark → ℕ → ℕ
after (digit d) v = v * 10 + d
after minus v = v
after quote v = v
after comma v = 0
after cr v = 0
after lf v = v
after other v = v

-- what holds of the next state, if there is one
abbrev Yields : Option State → (State → Type 0) → Type 0
Yields none P = Unit {0}
Yields (some s) P = P s

row_yields :
    (d : ℕ → Option State) (m q c r l : Option State) (v : ℕ) → ((k : ℕ) → k ≤ 9 → Yields (d k) (λ s. Value s (v * 10 + k))) → Yields m (λ s. Value s v) →
    Yields q (λ s. Value s v) → Yields c (λ s. Value s 0) → Yields r (λ s. Value s 0) → Yields l (λ s. Value s v) →
    (x : Mark) → Low x → Yields (row d m q c r l x) (λ s. Value s (after x v))
row_yields d m q c r l v fd fm fq fc fr fl (digit k) h = fd k h
row_yields d m q c r l v fd fm fq fc fr fl minus h = fm
row_yields d m q c r l v fd fm fq fc fr fl quote h = fq
row_yields d m q c r l v fd fm fq fc fr fl comma h = fc
row_yields d m q c r l v fd fm fq fc fr fl cr h = fr
row_yields d m q c r l v fd fm fq fc fr fl lf h = fl
row_yields d m q c r l v fd fm fq fc fr fl other h = tt

one_more : (left v k : ℕ) → (suc left ≤ 9) × (v < 10 ^ (10 - suc left)) → k ≤ 9 → (left ≤ 9) × (v * 10 + k < 10 ^ (10 - left))
one_more left v k h d =
    let e : 10 - left ≡ suc (10 - suc left) = omega (arith, h.0) in
    (omega (arith, h.0), rw e (omega (arith, pow-suc 10 (10 - suc left), h.1)))

-- states that count the digits left hold a number of those before
abbrev Counts : (ℕ → State) → Type 0
Counts within = (left v : ℕ) → (left ≤ 9) × (v < 10 ^ (10 - left)) → Value (within left) v

more_yields : (within : ℕ → State) → Counts within → (left v : ℕ) → (left ≤ 9) × (v < 10 ^ (10 - left)) → (k : ℕ) → k ≤ 9 → Yields (more within left) (λ s. Value s (v * 10 + k))
unfolding more
more_yields within holds zero v h k d = tt
more_yields within holds (suc left) v h k d = holds left (v * 10 + k) (one_more left v k h d)

-- the first digit
lead_yields :
    (zero' : Option State) (within : ℕ → State) → Counts within → (v : ℕ) → v ≡ 0 → Yields zero' (λ s. Value s (v * 10 + 0)) →
    (k : ℕ) → k ≤ 9 → Yields (leading zero' (within 9) k) (λ s. Value s (v * 10 + k))
unfolding leading
lead_yields zero' within holds v e h zero d = h
lead_yields zero' within holds v e h (suc k) d = holds 9 (v * 10 + suc k) (omega arith, omega arith)

tariff_yields : (kind : Kind) (s : State) (v : ℕ) → Value s v → Yields (in_tariff kind s) (λ x. Value x v)
unfolding in_tariff
tariff_yields Tariff s v h = h
tariff_yields Production s v h = tt

comma_zero : (kind : Kind) (source : Bool) → Value (after_comma kind source) 0
unfolding after_comma
comma_zero Production source = refl
comma_zero Tariff true = refl
comma_zero Tariff false = refl

line_zero : (kind : Kind) (v : ℕ) → v ≡ 0 → Value (after_line kind) v
unfolding after_line
line_zero Production v e = e
line_zero Tariff v e = e

bare_counts : Counts bare
bare_counts left v h = h

quoted_counts : Counts quoted
quoted_counts left v h = h

bare_cost_counts : Counts bare_cost
bare_cost_counts left v h = h

quoted_cost_counts : Counts quoted_cost
quoted_cost_counts left v h = h

step_yields : (kind : Kind) (source : Bool) (s : State) (v : ℕ) → Value s v → (m : Mark) → Low m → Yields (step kind source s m) (λ x. Value x (after m v))
unfolding step
step_yields kind source field v e =
    row_yields _ _ _ _ _ _ v (lead_yields (some zeroBare) bare bare_counts v e (omega arith)) (tariff_yields kind minusBare v e) e tt tt tt
step_yields kind source field_or_empty v e =
    row_yields _ _ _ _ _ _ v (lead_yields (some zeroBare) bare bare_counts v e (omega arith)) (tariff_yields kind minusBare v e) e tt refl tt
step_yields kind source record_or_end v e = row_yields _ _ _ _ _ _ v (lead_yields (some zeroBare) bare bare_counts v e (omega arith)) tt e tt tt tt
step_yields kind source opened v e =
    row_yields _ _ _ _ _ _ v (lead_yields (some zeroQuoted) quoted quoted_counts v e (omega arith)) (tariff_yields kind minusQuoted v e) tt tt tt tt
step_yields kind source (bare left) v h = row_yields _ _ _ _ _ _ v (more_yields bare bare_counts left v h) tt tt (comma_zero kind source) refl tt
step_yields kind source (quoted left) v h = row_yields _ _ _ _ _ _ v (more_yields quoted quoted_counts left v h) tt (digits_small left v h) tt tt tt
step_yields kind source zeroBare v h = row_yields _ _ _ _ _ _ v (λ k d. tt) tt tt (comma_zero kind source) refl tt
step_yields kind source zeroQuoted v h = row_yields _ _ _ _ _ _ v (λ k d. tt) tt (let z : v ≤ 9999999999 = omega arith in z) tt tt tt
step_yields kind source closed v h = row_yields _ _ _ _ _ _ v (λ k d. tt) tt tt (comma_zero kind source) refl tt
step_yields kind source minusBare v e = row_yields _ _ _ _ _ _ v (lead_yields none bare_cost bare_cost_counts v e tt) tt tt tt tt tt
step_yields kind source minusQuoted v e = row_yields _ _ _ _ _ _ v (lead_yields none quoted_cost quoted_cost_counts v e tt) tt tt tt tt tt
step_yields kind source (bare_cost left) v h = row_yields _ _ _ _ _ _ v (more_yields bare_cost bare_cost_counts left v h) tt tt refl tt tt
step_yields kind source (quoted_cost left) v h = row_yields _ _ _ _ _ _ v (more_yields quoted_cost quoted_cost_counts left v h) tt (digits_small left v h) tt tt tt
step_yields kind source closed_cost v h = row_yields _ _ _ _ _ _ v (λ k d. tt) tt tt refl tt tt
step_yields kind source line_end v e = row_yields _ _ _ _ _ _ v (λ k d. tt) tt tt tt tt (line_zero kind v e)
step_yields kind source last_line_end v e = row_yields _ _ _ _ _ _ v (λ k d. tt) tt tt tt tt e
step_yields kind source done v e = row_yields _ _ _ _ _ _ v (λ k d. tt) tt tt tt tt tt

-- all numbers of a record, and of all records
abbrev pub All : List ℤ → Type 0
All [] = Unit {0}
All (z ∷ l) = (nat_abs z ≤ 9999999999) × All l

abbrev pub AllRows : List (List ℤ) → Type 0
AllRows [] = Unit {0}
AllRows (r ∷ rs) = All r × AllRows rs

all_append : (a b : List ℤ) → All a → All b → All (a ++ b)
all_append [] b h k = k
all_append (v ∷ a) b h k = (h.0, all_append a b h.1 k)

rows_snoc : (rs : List (List ℤ)) (r : List ℤ) → AllRows rs → All r → AllRows (rs ++ (r ∷ []))
rows_snoc [] r h k = (k, tt)
rows_snoc (x ∷ rs) r h k = (h.0, rows_snoc rs r h.1 k)

pub sizes_at : (l : List ℤ) → All l → (k : ℕ) → k < length (map nat_abs l) → get_or (map nat_abs l) k 0 ≤ 9999999999
sizes_at [] h k b = absurd (omega arith)
sizes_at (z ∷ l) h zero b = h.0
sizes_at (z ∷ l) h (suc k) b = sizes_at l h.1 k (omega arith)

pub all_in_order : (rs : List (List ℤ)) → AllRows rs → All (in_order rs)
unfolding in_order
all_in_order [] h = tt
all_in_order (r ∷ rs) h = all_append r (in_order rs) h.0 (all_in_order rs h.1)

record Held (r : Reading) : Type 0 where
  value : Value r.state r.value
  row : All r.row
  rows : AllRows r.rows

-- a number with its sign has the size of its digits
signed_size : (n : Bool) (v : ℕ) → nat_abs (signed n v) ≡ v
signed_size true zero = refl
signed_size true (suc v) = refl
signed_size false v = refl

small : (r : Reading) → Held r → nat_abs (number r) ≤ 9999999999
small r h = omega (arith, signed_size r.negative r.value, value_small r.state r.value h.value)

row_held : (r : Reading) → Held r → All (row_with (number r) r.row)
row_held r h = all_append r.row (number r ∷ []) h.row (small r h, tt)

rows_held : (r : Reading) → Held r → AllRows (rows_with (number r) r.row r.rows)
rows_held r h = rows_snoc r.rows (row_with (number r) r.row) h.rows (row_held r h)

absorb_held : (m : Mark) (s : State) (r : Reading) → Held r → Value s (after m r.value) → Held (absorb m s r)
unfolding absorb
absorb_held (digit d) s r h v = record { value = v; row = h.row; rows = h.rows }
absorb_held minus s r h v = record { value = v; row = h.row; rows = h.rows }
absorb_held quote s r h v = record { value = v; row = h.row; rows = h.rows }
absorb_held comma s r h v = record { value = v; row = row_held r h; rows = h.rows }
absorb_held cr s r h v = record { value = v; row = tt; rows = rows_held r h }
absorb_held lf s r h v = record { value = v; row = h.row; rows = h.rows }
absorb_held other s r h v = record { value = v; row = h.row; rows = h.rows }

end_held : (s : State) (r : Reading) → Held r → AllRows (records_at_end s r)
unfolding records_at_end
end_held field r h = rows_held r h
end_held field_or_empty r h = rows_held r h
end_held record_or_end r h = h.rows
end_held opened r h = rows_held r h
end_held (bare left) r h = rows_held r h
end_held (quoted left) r h = rows_held r h
end_held zeroBare r h = rows_held r h
end_held zeroQuoted r h = rows_held r h
end_held closed r h = rows_held r h
end_held minusBare r h = rows_held r h
end_held minusQuoted r h = rows_held r h
end_held (bare_cost left) r h = rows_held r h
end_held (quoted_cost left) r h = rows_held r h
end_held closed_cost r h = rows_held r h
end_held line_end r h = rows_held r h
end_held last_line_end r h = rows_held r h
end_held done r h = h.rows

run_held : (kind : Kind) (l : List ℕ) (at : ℕ) (r : Reading) → Held r → (rs : List (List ℤ)) → run kind at r l ≡ whole rs → AllRows rs
unfolding run
run_held kind [] at r h rs e = go (may_end kind r.state) e
  where
    go : (b : Bool) → (let f : Form = elim b [ true ↦ whole (records_at_end r.state r) | false ↦ broken at ] in f) ≡ whole rs → AllRows rs
    go true e = let z : records_at_end r.state r ≡ rs = cc in subst (λ (l : List (List ℤ)). AllRows l) z (end_held r.state r h)
    go false e = let z : ◌≡◌ {A = ℕ} 0 1 = cc in absurd (omega arith)
run_held kind (b ∷ l) at r h rs e =
    go (λ at' r' h' e'. run_held kind l at' r' h' rs e') (step kind (is_source r) r.state (mark b))
    (step_yields kind (is_source r) r.state r.value h.value (mark b) (low b)) e
  where
    go : ((at' : ℕ) (r' : Reading) → Held r' → run kind at' r' l ≡ whole rs → AllRows rs) → (o : Option State) → Yields o (λ x. Value x (after (mark b) r.value))
        → (let f : Form = elim o [ none ↦ broken (place_of r.state (mark b) at) | some s ↦ run kind (suc at) (absorb (mark b) s r) l ] in f) ≡ whole rs → AllRows rs
    go on none y e = let z : ◌≡◌ {A = ℕ} 0 1 = cc in absurd (omega arith)
    go on (some s) y e = on (suc at) (absorb (mark b) s r) (absorb_held (mark b) s r h y) e

pub form_small : (kind : Kind) (l : List ℕ) (rs : List (List ℤ)) → form_of kind l ≡ whole rs → AllRows rs
unfolding form_of
form_small kind l rs e = run_held kind l 0 (reading field 0 false false [] []) (record { value = refl; row = tt; rows = tt }) rs e
