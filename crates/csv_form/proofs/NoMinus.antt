-- A supply, a demand and a production entry have no minus: the last field of each record of a file of the form is not negative, nor is any field of
-- the last record of a tariff. Assumes nothing.
use mathlib.Core.Path.{◌≡◌, refl, sym, ◌∙◌, subst}
use mathlib.Core.Bool.{Bool, true, false, ◌||◌, true≢false, false≢true}
use mathlib.Core.Option.{Option, none, some}
use mathlib.Core.List.{List, [], ◌∷◌, ◌++◌}
use Prim.Native.Nat.{ℕ, zero, suc, ◌+◌, ◌*◌}
use native.Mathlib.Omega.{arith}
use lib.IntN.{ℤ, pos, nat_abs}
use Rattle.csv_form.specs.declared.Kind.{Kind}
use Rattle.csv_form.specs.declared.Kind.TheVariants.{Tariff, Production}
use Rattle.csv_form.specs.Form.{
  Mark,
  digit,
  minus,
  quote,
  comma,
  cr,
  lf,
  other,
  mark,
  State,
  field,
  field_or_empty,
  record_or_end,
  opened,
  bare,
  quoted,
  zeroBare,
  zeroQuoted,
  closed,
  minusBare,
  minusQuoted,
  bare_cost,
  quoted_cost,
  closed_cost,
  line_end,
  last_line_end,
  done,
  leading,
  step,
  place_of,
  more,
  may_end,
  is_production,
  after_comma,
  after_line,
  in_tariff,
}
use Rattle.csv_form.specs.Records.{Reading, reading, run, signed, absorb, records_at_end, row_with, rows_with, is_first, is_source, Form, whole, broken, form_of}

-- a number without a minus
abbrev pub Plain : ℤ → Type 0
Plain z = z ≡ pos (nat_abs z)

-- no field of a record has one; the last has none
abbrev pub AllPlain : List ℤ → Type 0
AllPlain [] = Unit {0}
AllPlain (z ∷ r) = Plain z × AllPlain r

abbrev pub LastPlain : List ℤ → Type 0
LastPlain [] = Unit {0}
LastPlain (z ∷ []) = Plain z
LastPlain (z ∷ y ∷ r) = LastPlain (y ∷ r)

-- each record ends so; the last record has no minus at all
abbrev pub EachLast : List (List ℤ) → Type 0
EachLast [] = Unit {0}
EachLast (r ∷ rs) = LastPlain r × EachLast rs

abbrev pub LastAll : List (List ℤ) → Type 0
LastAll [] = Unit {0}
LastAll (r ∷ []) = AllPlain r
LastAll (r ∷ q ∷ rs) = LastAll (q ∷ rs)

all_snoc : (r : List ℤ) (z : ℤ) → AllPlain r → Plain z → AllPlain (row_with z r)
all_snoc [] z h p = (p, tt)
all_snoc (y ∷ r) z h p = (h.0, all_snoc r z h.1 p)

last_snoc : (r : List ℤ) (z : ℤ) → Plain z → LastPlain (row_with z r)
last_snoc [] z p = p
last_snoc (y ∷ []) z p = p
last_snoc (y ∷ x ∷ r) z p = last_snoc (x ∷ r) z p

each_snoc : (rs : List (List ℤ)) (r : List ℤ) → EachLast rs → LastPlain r → EachLast (rs ++ (r ∷ []))
each_snoc [] r h p = (p, tt)
each_snoc (q ∷ rs) r h p = (h.0, each_snoc rs r h.1 p)

last_all : (rs : List (List ℤ)) (r : List ℤ) → AllPlain r → LastAll (rs ++ (r ∷ []))
last_all [] r p = p
last_all (q ∷ []) r p = p
last_all (q ∷ x ∷ rs) r p = last_all (x ∷ rs) r p

-- what holds at a state: of the minus of this field, of the minus signs of this record, and of the last record
abbrev Here : Kind → State → Reading → Type 0
Here kind field r = r.negative ≡ false
Here kind field_or_empty r = (r.negative ≡ false) × (r.rebate ≡ false)
Here kind record_or_end r = (r.negative ≡ false) × (is_production kind ≡ true)
Here kind opened r = r.negative ≡ false
Here kind (bare left) r = r.negative ≡ false
Here kind (quoted left) r = r.negative ≡ false
Here kind zeroBare r = r.negative ≡ false
Here kind zeroQuoted r = r.negative ≡ false
Here kind closed r = r.negative ≡ false
Here kind minusBare r = r.rebate ≡ true
Here kind minusQuoted r = r.rebate ≡ true
Here kind (bare_cost left) r = r.rebate ≡ true
Here kind (quoted_cost left) r = r.rebate ≡ true
Here kind closed_cost r = r.rebate ≡ true
Here kind line_end r = r.negative ≡ false
Here kind last_line_end r = LastAll r.rows
Here kind done r = LastAll r.rows

record Fine (kind : Kind) (r : Reading) : Type 0 where
  rows_fine : EachLast r.rows
  row_fine : r.rebate ≡ false → AllPlain r.row
  here : Here kind r.state r

Then : Kind → Option State → Mark → Reading → Type 0
Then kind none m r = Unit {0}
Then kind (some s) m r = Fine kind (absorb m s r)

-- the number of a field without a minus
plain_number : (n : Bool) (v : ℕ) → n ≡ false → Plain (signed n v)
plain_number true v e = absurd (true≢false e)
plain_number false v e = refl

first_no : (b f : Bool) → (b || f) ≡ false → b ≡ false
first_no true f e = e
first_no false f e = refl

module _ (kind : Kind) (v : ℕ) (n b : Bool) (r : List ℤ) (rs : List (List ℤ)) (rows : EachLast rs) (row : b ≡ false → AllPlain r) where
  -- a field ends: after a comma, after the CR of a record, after the CR of the demands
  comma_plain : (st : State) → n ≡ false → Then kind (some (after_comma kind (b || is_first rs))) comma (reading st v n b r rs)
  unfolding Then absorb after_comma
  comma_plain st e = go kind (b || is_first rs) refl
    where
      go : (kind : Kind) (f : Bool) → (b || is_first rs) ≡ f → Fine kind (reading (after_comma kind f) 0 false b (row_with (signed n v) r) rs)
      go Production f k = record { rows_fine = rows; row_fine = λ h. all_snoc r _ (row h) (plain_number n v e); here = refl }
      go Tariff true k = record { rows_fine = rows; row_fine = λ h. all_snoc r _ (row h) (plain_number n v e); here = refl }
      go Tariff false k = record { rows_fine = rows; row_fine = λ h. all_snoc r _ (row h) (plain_number n v e); here = (refl, first_no b (is_first rs) k) }

  comma_cost : (st : State) → b ≡ true → Then kind (some field) comma (reading st v n b r rs)
  unfolding Then absorb
  comma_cost st e = record { rows_fine = rows; row_fine = λ h. absurd (true≢false (sym e ∙ h)); here = refl }

  cr_record : (st : State) → n ≡ false → Then kind (some line_end) cr (reading st v n b r rs)
  unfolding Then absorb
  cr_record st e = record { rows_fine = each_snoc rs _ rows (last_snoc r _ (plain_number n v e)); row_fine = λ h. tt; here = refl }

  cr_demands : (st : State) → n ≡ false → b ≡ false → Then kind (some last_line_end) cr (reading st v n b r rs)
  unfolding Then absorb
  cr_demands st e k = record {
    rows_fine = each_snoc rs _ rows (last_snoc r _ (plain_number n v e));
    row_fine = λ h. tt;
    here = last_all rs _ (all_snoc r _ (row k) (plain_number n v e));
  }

  -- a digit, a minus, a quote
  first_digit : (st z s : State) (d : ℕ) → ((w : ℕ) → Here kind z (reading z w n b r rs)) → ((w : ℕ) → Here kind s (reading s w n b r rs)) →
      Then kind (leading (some z) s d) (digit d) (reading st v n b r rs)
  unfolding Then absorb leading
  first_digit st z s zero hz hs = record { rows_fine = rows; row_fine = row; here = hz (v * 10 + 0) }
  first_digit st z s (suc d) hz hs = record { rows_fine = rows; row_fine = row; here = hs (v * 10 + suc d) }

  cost_digit : (st s : State) (d : ℕ) → ((w : ℕ) → Here kind s (reading s w n b r rs)) → Then kind (leading none s d) (digit d) (reading st v n b r rs)
  unfolding Then absorb leading
  cost_digit st s zero hs = tt
  cost_digit st s (suc d) hs = record { rows_fine = rows; row_fine = row; here = hs (v * 10 + suc d) }

  quote_plain : (st s : State) → Here kind s (reading s v n b r rs) → Then kind (some s) quote (reading st v n b r rs)
  unfolding Then absorb
  quote_plain st s h = record { rows_fine = rows; row_fine = row; here = h }

  feed : (st s : State) → Here kind s (reading s v n b r rs) → Then kind (some s) lf (reading st v n b r rs)
  unfolding Then absorb
  feed st s h = record { rows_fine = rows; row_fine = row; here = h }

  minus_tariff : (st s : State) → ((k : Kind) → Here k s (reading s v true true r rs)) → Then kind (in_tariff kind s) minus (reading st v n b r rs)
  unfolding Then absorb in_tariff
  minus_tariff st s h = go kind
    where
      go : (kind : Kind) → Then kind (in_tariff kind s) minus (reading st v n b r rs)
      go Production = tt
      go Tariff = record { rows_fine = rows; row_fine = λ e. absurd (true≢false e); here = h Tariff }

  more_digits : (st : State) (within : ℕ → State) (left d : ℕ) → ((k : ℕ) → Here kind (within k) (reading (within k) (v * 10 + d) n b r rs)) →
      Then kind (more within left) (digit d) (reading st v n b r rs)
  unfolding Then absorb more
  more_digits st within zero d h = tt
  more_digits st within (suc left) d h = record { rows_fine = rows; row_fine = row; here = h left }

  line : (st : State) → n ≡ false → Then kind (some (after_line kind)) lf (reading st v n b r rs)
  unfolding Then absorb after_line is_production
  line st e = go kind
    where
      go : (kind : Kind) → Fine kind (reading (after_line kind) v n b r rs)
      go Production = record { rows_fine = rows; row_fine = row; here = (e, refl) }
      go Tariff = record { rows_fine = rows; row_fine = row; here = e }

  goes_on : (st : State) (m : Mark) → Here kind st (reading st v n b r rs) → Then kind (step kind (b || is_first rs) st m) m (reading st v n b r rs)
  unfolding step Then
  goes_on field (digit d) h = first_digit field zeroBare (bare 9) d (λ w. h) (λ w. h)
  goes_on field minus h = minus_tariff field minusBare (λ k. refl)
  goes_on field quote h = quote_plain field opened h
  goes_on field comma h = tt
  goes_on field cr h = tt
  goes_on field lf h = tt
  goes_on field other h = tt
  goes_on field_or_empty (digit d) h = first_digit field_or_empty zeroBare (bare 9) d (λ w. h.0) (λ w. h.0)
  goes_on field_or_empty minus h = minus_tariff field_or_empty minusBare (λ k. refl)
  goes_on field_or_empty quote h = quote_plain field_or_empty opened h.0
  goes_on field_or_empty comma h = tt
  goes_on field_or_empty cr h = cr_demands field_or_empty h.0 h.1
  goes_on field_or_empty lf h = tt
  goes_on field_or_empty other h = tt
  goes_on record_or_end (digit d) h = first_digit record_or_end zeroBare (bare 9) d (λ w. h.0) (λ w. h.0)
  goes_on record_or_end minus h = tt
  goes_on record_or_end quote h = quote_plain record_or_end opened h.0
  goes_on record_or_end comma h = tt
  goes_on record_or_end cr h = tt
  goes_on record_or_end lf h = tt
  goes_on record_or_end other h = tt
  goes_on opened (digit d) h = first_digit opened zeroQuoted (quoted 9) d (λ w. h) (λ w. h)
  goes_on opened minus h = minus_tariff opened minusQuoted (λ k. refl)
  goes_on opened quote h = tt
  goes_on opened comma h = tt
  goes_on opened cr h = tt
  goes_on opened lf h = tt
  goes_on opened other h = tt
  goes_on (bare left) (digit d) h = more_digits (bare left) bare left d (λ k. h)
  goes_on (bare left) minus h = tt
  goes_on (bare left) quote h = tt
  goes_on (bare left) comma h = comma_plain (bare left) h
  goes_on (bare left) cr h = cr_record (bare left) h
  goes_on (bare left) lf h = tt
  goes_on (bare left) other h = tt
  goes_on (quoted left) (digit d) h = more_digits (quoted left) quoted left d (λ k. h)
  goes_on (quoted left) minus h = tt
  goes_on (quoted left) quote h = quote_plain (quoted left) closed h
  goes_on (quoted left) comma h = tt
  goes_on (quoted left) cr h = tt
  goes_on (quoted left) lf h = tt
  goes_on (quoted left) other h = tt
  goes_on zeroBare (digit d) h = tt
  goes_on zeroBare minus h = tt
  goes_on zeroBare quote h = tt
  goes_on zeroBare comma h = comma_plain zeroBare h
  goes_on zeroBare cr h = cr_record zeroBare h
  goes_on zeroBare lf h = tt
  goes_on zeroBare other h = tt
  goes_on zeroQuoted (digit d) h = tt
  goes_on zeroQuoted minus h = tt
  goes_on zeroQuoted quote h = quote_plain zeroQuoted closed h
  goes_on zeroQuoted comma h = tt
  goes_on zeroQuoted cr h = tt
  goes_on zeroQuoted lf h = tt
  goes_on zeroQuoted other h = tt
  goes_on closed (digit d) h = tt
  goes_on closed minus h = tt
  goes_on closed quote h = tt
  goes_on closed comma h = comma_plain closed h
  goes_on closed cr h = cr_record closed h
  goes_on closed lf h = tt
  goes_on closed other h = tt
  goes_on minusBare (digit d) h = cost_digit minusBare (bare_cost 9) d (λ w. h)
  goes_on minusBare minus h = tt
  goes_on minusBare quote h = tt
  goes_on minusBare comma h = tt
  goes_on minusBare cr h = tt
  goes_on minusBare lf h = tt
  goes_on minusBare other h = tt
  goes_on minusQuoted (digit d) h = cost_digit minusQuoted (quoted_cost 9) d (λ w. h)
  goes_on minusQuoted minus h = tt
  goes_on minusQuoted quote h = tt
  goes_on minusQuoted comma h = tt
  goes_on minusQuoted cr h = tt
  goes_on minusQuoted lf h = tt
  goes_on minusQuoted other h = tt
  goes_on (bare_cost left) (digit d) h = more_digits (bare_cost left) bare_cost left d (λ k. h)
  goes_on (bare_cost left) minus h = tt
  goes_on (bare_cost left) quote h = tt
  goes_on (bare_cost left) comma h = comma_cost (bare_cost left) h
  goes_on (bare_cost left) cr h = tt
  goes_on (bare_cost left) lf h = tt
  goes_on (bare_cost left) other h = tt
  goes_on (quoted_cost left) (digit d) h = more_digits (quoted_cost left) quoted_cost left d (λ k. h)
  goes_on (quoted_cost left) minus h = tt
  goes_on (quoted_cost left) quote h = quote_plain (quoted_cost left) closed_cost h
  goes_on (quoted_cost left) comma h = tt
  goes_on (quoted_cost left) cr h = tt
  goes_on (quoted_cost left) lf h = tt
  goes_on (quoted_cost left) other h = tt
  goes_on closed_cost (digit d) h = tt
  goes_on closed_cost minus h = tt
  goes_on closed_cost quote h = tt
  goes_on closed_cost comma h = comma_cost closed_cost h
  goes_on closed_cost cr h = tt
  goes_on closed_cost lf h = tt
  goes_on closed_cost other h = tt
  goes_on line_end (digit d) h = tt
  goes_on line_end minus h = tt
  goes_on line_end quote h = tt
  goes_on line_end comma h = tt
  goes_on line_end cr h = tt
  goes_on line_end lf h = line line_end h
  goes_on line_end other h = tt
  goes_on last_line_end (digit d) h = tt
  goes_on last_line_end minus h = tt
  goes_on last_line_end quote h = tt
  goes_on last_line_end comma h = tt
  goes_on last_line_end cr h = tt
  goes_on last_line_end lf h = feed last_line_end done h
  goes_on last_line_end other h = tt
  goes_on done (digit d) h = tt
  goes_on done minus h = tt
  goes_on done quote h = tt
  goes_on done comma h = tt
  goes_on done cr h = tt
  goes_on done lf h = tt
  goes_on done other h = tt

-- the records of a file of the form
pub record Signs (kind : Kind) (rs : List (List ℤ)) : Type 0 where
  pub last_fields : EachLast rs
  pub last_record : is_production kind ≡ false → LastAll rs

ends : (kind : Kind) (r : Reading) → Fine kind r → may_end kind r.state ≡ true → Signs kind (records_at_end r.state r)
unfolding may_end records_at_end is_production
ends kind r f e = go kind r.state r.value r.negative r.rebate r.row r.rows f.rows_fine f.row_fine f.here e
  where
    by : (n : Bool) (v : ℕ) (r : List ℤ) (rs : List (List ℤ)) → EachLast rs → n ≡ false → EachLast (rows_with (signed n v) r rs)
    by n v r rs h e = each_snoc rs _ h (last_snoc r _ (plain_number n v e))

    go : (kind : Kind) (st : State) (v : ℕ) (n b : Bool) (r : List ℤ) (rs : List (List ℤ)) → EachLast rs → (b ≡ false → AllPlain r) → Here kind st (reading st v n b r rs) →
        may_end kind st ≡ true → Signs kind (records_at_end st (reading st v n b r rs))
    go kind field v n b r rs rows row h e = absurd (false≢true e)
    go kind field_or_empty v n b r rs rows row h e = record { last_fields = by n v r rs rows h.0; last_record = λ _. last_all rs _ (all_snoc r _ (row h.1) (plain_number n v h.0)) }
    go Production record_or_end v n b r rs rows row h e = record { last_fields = rows; last_record = λ k. absurd (true≢false k) }
    go Tariff record_or_end v n b r rs rows row h e = absurd (false≢true h.1)
    go kind opened v n b r rs rows row h e = absurd (false≢true e)
    go Production (bare left) v n b r rs rows row h e = record { last_fields = by n v r rs rows h; last_record = λ k. absurd (true≢false k) }
    go Tariff (bare left) v n b r rs rows row h e = absurd (false≢true e)
    go kind (quoted left) v n b r rs rows row h e = absurd (false≢true e)
    go Production zeroBare v n b r rs rows row h e = record { last_fields = by n v r rs rows h; last_record = λ k. absurd (true≢false k) }
    go Tariff zeroBare v n b r rs rows row h e = absurd (false≢true e)
    go kind zeroQuoted v n b r rs rows row h e = absurd (false≢true e)
    go Production closed v n b r rs rows row h e = record { last_fields = by n v r rs rows h; last_record = λ k. absurd (true≢false k) }
    go Tariff closed v n b r rs rows row h e = absurd (false≢true e)
    go kind minusBare v n b r rs rows row h e = absurd (false≢true e)
    go kind minusQuoted v n b r rs rows row h e = absurd (false≢true e)
    go kind (bare_cost left) v n b r rs rows row h e = absurd (false≢true e)
    go kind (quoted_cost left) v n b r rs rows row h e = absurd (false≢true e)
    go kind closed_cost v n b r rs rows row h e = absurd (false≢true e)
    go kind line_end v n b r rs rows row h e = absurd (false≢true e)
    go kind last_line_end v n b r rs rows row h e = absurd (false≢true e)
    go kind done v n b r rs rows row h e = record { last_fields = rows; last_record = λ _. h }

walks : (kind : Kind) (at : ℕ) (r : Reading) (l : List ℕ) (rs : List (List ℤ)) → Fine kind r → run kind at r l ≡ whole rs → Signs kind rs
unfolding run Then
walks kind at r [] rs f e = go (may_end kind r.state) refl e
  where
    go : (t : Bool) → may_end kind r.state ≡ t → elim t as (λ x. Form) [ true ↦ whole (records_at_end r.state r) | false ↦ broken at ] ≡ whole rs → Signs kind rs
    go true k w = subst (λ (x : List (List ℤ)). Signs kind x) (let z : records_at_end r.state r ≡ rs = cc in z) (ends kind r f k)
    go false k w = absurd (let z : ◌≡◌ {A = ℕ} 0 1 = cc in omega arith)
walks kind at r (b ∷ l) rs f e =
    go (step kind (is_source r) r.state (mark b))
    (goes_on kind r.value r.negative r.rebate r.row r.rows f.rows_fine f.row_fine r.state (mark b) f.here) e
    (λ s g w. walks kind (suc at) (absorb (mark b) s r) l rs g w)
  where
    go : (o : Option State) → Then kind o (mark b) r →
        elim o as (λ x. Form) [ none ↦ broken (place_of r.state (mark b) at) | some s ↦ run kind (suc at) (absorb (mark b) s r) l ] ≡ whole rs →
        ((s : State) → Fine kind (absorb (mark b) s r) → run kind (suc at) (absorb (mark b) s r) l ≡ whole rs → Signs kind rs) → Signs kind rs
    go none g w ih = absurd (let z : ◌≡◌ {A = ℕ} 0 1 = cc in omega arith)
    go (some s) g w ih = ih s g w

-- the last field of each record has no minus, and in a tariff no field of the last record has one
pub plain : (kind : Kind) (l : List ℕ) (rs : List (List ℤ)) → form_of kind l ≡ whole rs → Signs kind rs
unfolding form_of
plain kind l rs e = walks kind 0 (reading field 0 false false [] []) l rs (record { rows_fine = tt; row_fine = λ _. tt; here = refl }) e
