-- A file of the form is accepted, with its records. Assumes nothing.
use mathlib.Core.Path.{◌≡◌, refl, ap, sym, ◌∙◌, subst}
use mathlib.Core.Bool.{Bool, true, false, ◌||◌, true≢false}
use mathlib.Core.Option.{Option, none, some}
use mathlib.Core.List.{List, [], ◌∷◌, ◌++◌, map, append_assoc, append-nil}
use Prim.Native.Nat.{ℕ, zero, suc, ◌+◌, ◌*◌, ◌-◌, ◌≤◌, ◌<◌}
use native.Mathlib.Omega.{arith}
use lib.IntN.{ℤ, pos}
use lib.ListN.{length, get_or}
use Rattle.csv_form.specs.declared.Kind.{Kind}
use Rattle.csv_form.specs.declared.Kind.TheVariants.{Tariff, Production}
use Rattle.csv_form.specs.Form.{Mark, digit, minus, quote, comma, cr, lf, other, mark, State, field, field_or_empty, record_or_end, opened, bare}
use Rattle.csv_form.specs.Form.{zeroBare, zeroQuoted, closed, minusBare, minusQuoted, bare_cost, closed_cost, line_end, last_line_end, done}
use Rattle.csv_form.specs.Form.{step, leading, more, after_comma, after_line, in_tariff, place_of, may_end, is_production}
use Rattle.csv_form.specs.Records.{Reading, reading, run, absorb, records_at_end, row_with, rows_with, is_first, is_source, Form, whole, broken, form_of}
use Rattle.csv_form.specs.Records as machine
use Rattle.csv_form.specs.inner.Reader.{within, closed_as}
use Rattle.csv_form.proofs.ByteMarks.{mark_digit}
use Rattle.csv_grammar.specs.Grammar as grammar
use Rattle.csv_grammar.specs.Grammar.{Each, Digit, IsNumber, value_after, Field, IsField, IsPlain, signed, number_in, digit_text, sign_text}
use Rattle.csv_grammar.specs.Grammar.{in_quotes, field_text, record_text, Row, IsTariff, IsProduction, HasForm, lines_before, fields_of, row_text}
use Rattle.csv_grammar.specs.Grammar.{numbers_in, SourceRow, PlainRow, IsSource}

-- from a reading on, whatever the offset, these bytes end a file of the form with these records
pub record Ends (kind : Kind) (r : Reading) (l : List ℕ) (records : List (List ℤ)) : Type 0 where
  pub at : (at : ℕ) → run kind at r l ≡ whole records

module _ {kind : Kind} {records : List (List ℤ)} where
  -- one byte
  pub by_byte : (r : Reading) (b : ℕ) (m : Mark) (s : State) {l : List ℕ} → mark b ≡ m → step kind (is_source r) r.state m ≡ some s → Ends kind (absorb m s r) l records → Ends kind r (b ∷ l) records
  unfolding run
  by_byte r b m s {l} e k w = record { at = λ at. go at (step kind (is_source r) r.state (mark b)) (ap (λ (x : Mark). step kind (is_source r) r.state x) e ∙ k) }
    where
      go : (at : ℕ) (o : Option State) → o ≡ some s →
          (let f : Form = elim o [ none ↦ broken (place_of r.state (mark b) at) | some t ↦ run kind (suc at) (absorb (mark b) t r) l ] in f) ≡ whole records
      go at none q = absurd (let z : ◌≡◌ {A = ℕ} 0 1 = cc in omega arith)
      go at (some t) q =
          let same : t ≡ s = cc in
          rw (same, e) (w.at (suc at))

digit_mark : (d : ℕ) → d ≤ 9 → mark (digit_text d) ≡ digit d
digit_mark d h = mark_digit (48 + d) (omega arith) (omega arith) ∙ ap digit (let e : 48 + d - 48 ≡ d = omega arith in e)

-- where a number begins, and after a 0 that is one
abbrev start_of : Bool → Bool → State
start_of true false = opened
start_of false false = field
start_of true true = minusQuoted
start_of false true = minusBare

abbrev zero_of : Bool → State
zero_of true = zeroQuoted
zero_of false = zeroBare

first_digit : (kind : Kind) (source q m : Bool) (d : ℕ) → step kind source (start_of q m) (digit (suc d)) ≡ some (within q m 9)
unfolding step leading
first_digit kind source true true d = refl
first_digit kind source true false d = refl
first_digit kind source false true d = refl
first_digit kind source false false d = refl

first_zero : (kind : Kind) (source q : Bool) → step kind source (start_of q false) (digit 0) ≡ some (zero_of q)
unfolding step leading
first_zero kind source true = refl
first_zero kind source false = refl

next_digit : (kind : Kind) (source q m : Bool) (left d : ℕ) → step kind source (within q m (suc left)) (digit d) ≡ some (within q m left)
unfolding step more
next_digit kind source true true left d = refl
next_digit kind source true false left d = refl
next_digit kind source false true left d = refl
next_digit kind source false false left d = refl

close_digits : (kind : Kind) (source m : Bool) (left : ℕ) → step kind source (within true m left) quote ≡ some (closed_as m)
unfolding step
close_digits kind source true left = refl
close_digits kind source false left = refl

quote_mark : mark 34 ≡ quote
unfolding mark
quote_mark = refl

minus_mark : mark 45 ≡ minus
unfolding mark
minus_mark = refl

comma_mark : mark 44 ≡ comma
unfolding mark
comma_mark = refl

cr_mark : mark 13 ≡ cr
unfolding mark
cr_mark = refl

lf_mark : mark 10 ≡ lf
unfolding mark
lf_mark = refl

in_tariff_lem : {kind : Kind} (s : State) → kind ≡ Tariff → in_tariff kind s ≡ some s
unfolding in_tariff
in_tariff_lem s e = rw e refl

-- ---- a record's fields: the last has no minus, and others have one in a tariff alone
abbrev pub Fields : Kind → Field → List Field → Type 0
Fields kind f [] = IsPlain f
Fields kind f (g ∷ fs) = IsField f × (f.negative ≡ true → kind ≡ Tariff) × Fields kind g fs

abbrev pub RowOf : Kind → Row → Type 0
RowOf kind r = Fields kind r.first r.others

-- whether the record has a minus
abbrev rebate_in : Bool → Field → List Field → Bool
rebate_in b f [] = f.negative || b
rebate_in b f (g ∷ fs) = rebate_in (f.negative || b) g fs

pub same_signed : (m : Bool) (v : ℕ) → machine.signed m v ≡ signed m v
same_signed true v = refl
same_signed false v = refl

module _ {kind : Kind} {records : List (List ℤ)} where
  -- ---- a bare number ends where a quoted one would be closed
  bare_as_closed : (m b : Bool) (v k : ℕ) (row : List ℤ) (rows : List (List ℤ)) (l : List ℕ) →
      Ends kind (reading (closed_as m) v m b row rows) l records → Ends kind (reading (within false m k) v m b row rows) l records
  unfolding run step may_end records_at_end absorb
  bare_as_closed true b v k row rows [] w = record { at = λ at. w.at at }
  bare_as_closed false b v k row rows [] w = record { at = λ at. w.at at }
  bare_as_closed true b v k row rows (x ∷ l) w = record { at = λ at. on (mark x) at (w.at at) }
    where
      on : (m : Mark) (at : ℕ) →
          (let f : Form = elim (step kind (b || is_first rows) closed_cost m)
          [ none ↦ broken (place_of closed_cost m at) | some t ↦ run kind (suc at) (absorb m t (reading closed_cost v true b row rows)) l ] in
          f) ≡
          whole records →
          (let f : Form = elim (step kind (b || is_first rows) (bare_cost k) m)
          [ none ↦ broken (place_of (bare_cost k) m at) | some t ↦ run kind (suc at) (absorb m t (reading (bare_cost k) v true b row rows)) l ] in
          f) ≡
          whole records
      on (digit d) at h = absurd (let z : ◌≡◌ {A = ℕ} 0 1 = cc in omega arith)
      on minus at h = h
      on quote at h = h
      on comma at h = h
      on cr at h = h
      on lf at h = h
      on other at h = h
  bare_as_closed false b v k row rows (x ∷ l) w = record { at = λ at. on (mark x) at (w.at at) }
    where
      on : (m : Mark) (at : ℕ) →
          (let f : Form = elim (step kind (b || is_first rows) closed m) [ none ↦ broken (place_of closed m at) | some t ↦ run kind (suc at) (absorb m t (reading closed v false b row rows)) l ] in f) ≡
          whole records →
          (let f : Form = elim (step kind (b || is_first rows) (bare k) m) [ none ↦ broken (place_of (bare k) m at) | some t ↦ run kind (suc at) (absorb m t (reading (bare k) v false b row rows)) l ] in
          f) ≡
          whole records
      on (digit d) at h = absurd (let z : ◌≡◌ {A = ℕ} 0 1 = cc in omega arith)
      on minus at h = h
      on quote at h = h
      on comma at h = h
      on cr at h = h
      on lf at h = h
      on other at h = h

  zero_as_closed : (b : Bool) (v : ℕ) (row : List ℤ) (rows : List (List ℤ)) (l : List ℕ) →
      Ends kind (reading closed v false b row rows) l records → Ends kind (reading zeroBare v false b row rows) l records
  unfolding run step may_end records_at_end absorb
  zero_as_closed b v row rows [] w = record { at = λ at. w.at at }
  zero_as_closed b v row rows (x ∷ l) w = record { at = λ at. on (mark x) at (w.at at) }
    where
      on : (m : Mark) (at : ℕ) →
          (let f : Form = elim (step kind (b || is_first rows) closed m) [ none ↦ broken (place_of closed m at) | some t ↦ run kind (suc at) (absorb m t (reading closed v false b row rows)) l ] in f) ≡
          whole records →
          (let f : Form = elim (step kind (b || is_first rows) zeroBare m) [ none ↦ broken (place_of zeroBare m at) | some t ↦ run kind (suc at) (absorb m t (reading zeroBare v false b row rows)) l ] in
          f) ≡
          whole records
      on (digit d) at h = absurd (let z : ◌≡◌ {A = ℕ} 0 1 = cc in omega arith)
      on minus at h = h
      on quote at h = h
      on comma at h = h
      on cr at h = h
      on lf at h = h
      on other at h = h

  -- ---- digits
  digits_end : (q m b : Bool) (row : List ℤ) (rows : List (List ℤ)) (l : List ℕ) (ds : List ℕ) (left k v : ℕ) → Each Digit ds → left ≡ length ds + k →
      Ends kind (reading (within q m k) (value_after v ds) m b row rows) l records → Ends kind (reading (within q m left) v m b row rows) (map digit_text ds ++ l) records
  unfolding value_after absorb
  digits_end q m b row rows l [] left k v h e w = let z : k ≡ left = omega arith in subst (λ (n : ℕ). Ends kind (reading (within q m n) v m b row rows) l records) z w
  digits_end q m b row rows l (d ∷ ds) zero k v h e w = absurd (omega arith)
  digits_end q m b row rows l (d ∷ ds) (suc left) k v h e w =
      by_byte (reading (within q m (suc left)) v m b row rows) (digit_text d) (digit d) (within q m left) (digit_mark d h.0) (next_digit kind (b || is_first rows) q m left d)
      (taken q m (digits_end q m b row rows l ds left k (v * 10 + d) h.1 (omega arith) w))
    where
      taken : (q m : Bool) → Ends kind (reading (within q m left) (v * 10 + d) m b row rows) (map digit_text ds ++ l) records →
          Ends kind (absorb (digit d) (within q m left) (reading (within q m (suc left)) v m b row rows)) (map digit_text ds ++ l) records
      taken q m x = x

  -- a number, where what follows it ends well
  number_ends : (q m b : Bool) (row : List ℤ) (rows : List (List ℤ)) (l : List ℕ) (ds : List ℕ) → IsNumber ds → (m ≡ true → 0 < get_or ds 0 0) →
      ((k : ℕ) → Ends kind (reading (within q m k) (value_after 0 ds) m b row rows) l records) →
      (m ≡ false → Ends kind (reading (zero_of q) (value_after 0 ds) false b row rows) l records) →
      Ends kind (reading (start_of q m) 0 m b row rows) (map digit_text ds ++ l) records
  unfolding value_after absorb
  number_ends q m b row rows l [] n h w z = absurd (omega (arith, n.some))
  number_ends q m b row rows l (suc d ∷ ds) n h w z =
      by_byte (reading (start_of q m) 0 m b row rows) (digit_text (suc d)) (digit (suc d)) (within q m 9) (digit_mark (suc d) n.each.0) (first_digit kind (b || is_first rows) q m d)
      (digits_end q m b row rows l ds 9 (9 - length ds) (0 * 10 + suc d) n.each.1 (omega (arith, n.few)) (w (9 - length ds)))
  number_ends q m b row rows l (zero ∷ (d ∷ ds)) n h w z = absurd (omega (arith, n.no_zero (omega arith)))
  number_ends q true b row rows l (zero ∷ []) n h w z = absurd (omega (arith, h refl))
  number_ends q false b row rows l (zero ∷ []) n h w z =
      by_byte (reading (start_of q false) 0 false b row rows) (digit_text 0) (digit 0) (zero_of q) (digit_mark 0 (omega arith)) (first_zero kind (b || is_first rows) q) (z refl)

  -- ---- a field
  field_ends : (f : Field) → IsField f → (f.negative ≡ true → kind ≡ Tariff) → (b : Bool) (row : List ℤ) (rows : List (List ℤ)) (l : List ℕ) →
      Ends kind (reading (closed_as f.negative) (value_after 0 f.digits) f.negative (f.negative || b) row rows) l records →
      Ends kind (reading field 0 false b row rows) (field_text f ++ l) records
  unfolding field_text absorb step in_tariff
  field_ends f i tariff b row rows l w = go f.quoted f.negative i.no_minus_zero tariff w
    where
      ds : List ℕ
      ds = f.digits

      -- the number and the quote that closes it
      closing : (m b : Bool) → (m ≡ true → 0 < get_or ds 0 0) → Ends kind (reading (closed_as m) (value_after 0 ds) m b row rows) l records →
          Ends kind (reading (start_of true m) 0 m b row rows) (map digit_text ds ++ (34 ∷ l)) records
      closing m b z w =
          number_ends true m b row rows (34 ∷ l) ds i.number z
          (λ k. by_byte (reading (within true m k) (value_after 0 ds) m b row rows) 34 quote (closed_as m) quote_mark (close_digits kind (b || is_first rows) m k) w)
          (λ e. by_byte (reading zeroQuoted (value_after 0 ds) false b row rows) 34 quote closed quote_mark refl
          (subst (λ (m : Bool). Ends kind (reading (closed_as m) (value_after 0 ds) m b row rows) l records) e w))

      go : (q m : Bool) → (m ≡ true → 0 < get_or ds 0 0) → (m ≡ true → kind ≡ Tariff) →
          Ends kind (reading (closed_as m) (value_after 0 ds) m (m || b) row rows) l records →
          Ends kind (reading field 0 false b row rows) (in_quotes q (sign_text m ++ map digit_text ds) ++ l) records
      go false false z t w =
          number_ends false false b row rows l ds i.number z (λ k. bare_as_closed false b (value_after 0 ds) k row rows l w) (λ e. zero_as_closed b (value_after 0 ds) row rows l w)
      go false true z t w =
          by_byte (reading field 0 false b row rows) 45 minus minusBare minus_mark (in_tariff_lem minusBare (t refl))
          (number_ends false true true row rows l ds i.number z (λ k. bare_as_closed true true (value_after 0 ds) k row rows l w) (λ e. absurd (true≢false e)))
      go true false z t w =
          by_byte (reading field 0 false b row rows) 34 quote opened quote_mark refl
          (subst (λ (x : List ℕ). Ends kind (reading opened 0 false b row rows) x records) (sym (append_assoc (map digit_text ds) (34 ∷ []) l)) (closing false b z w))
      go true true z t w =
          by_byte (reading field 0 false b row rows) 34 quote opened quote_mark refl
          (by_byte (reading opened 0 false b row rows) 45 minus minusQuoted minus_mark (in_tariff_lem minusQuoted (t refl))
          (subst (λ (x : List ℕ). Ends kind (reading minusQuoted 0 true true row rows) x records) (sym (append_assoc (map digit_text ds) (34 ∷ []) l)) (closing true true z w)))

  -- ---- what stands between fields and records
  empty_as_field : (b : Bool) (row : List ℤ) (rows : List (List ℤ)) (l : List ℕ) →
      Ends kind (reading field 0 false b row rows) l records → Ends kind (reading field_or_empty 0 false b row rows) l records
  unfolding run step may_end records_at_end absorb
  empty_as_field b row rows [] w = absurd (let e = w.at 0 in let z : ◌≡◌ {A = ℕ} 0 1 = cc in omega arith)
  empty_as_field b row rows (x ∷ l) w = record { at = λ at. on (mark x) at (w.at at) }
    where
      on : (m : Mark) (at : ℕ) →
          (let f : Form = elim (step kind (b || is_first rows) field m) [ none ↦ broken (place_of field m at) | some t ↦ run kind (suc at) (absorb m t (reading field 0 false b row rows)) l ] in f) ≡
          whole records →
          (let f : Form = elim (step kind (b || is_first rows) field_or_empty m)
          [ none ↦ broken (place_of field_or_empty m at) | some t ↦ run kind (suc at) (absorb m t (reading field_or_empty 0 false b row rows)) l ] in
          f) ≡
          whole records
      on (digit d) at h = h
      on minus at h = h
      on quote at h = h
      on comma at h = h
      on cr at h = absurd (let z : ◌≡◌ {A = ℕ} 0 1 = cc in omega arith)
      on lf at h = h
      on other at h = h

  comma_ends : (m b : Bool) (v : ℕ) (row : List ℤ) (rows : List (List ℤ)) (l : List ℕ) →
      Ends kind (reading field 0 false b (row_with (machine.signed m v) row) rows) l records → Ends kind (reading (closed_as m) v m b row rows) (44 ∷ l) records
  unfolding step absorb after_comma
  comma_ends true b v row rows l w = by_byte (reading closed_cost v true b row rows) 44 comma field comma_mark refl w
  comma_ends false b v row rows l w = by_byte (reading closed v false b row rows) 44 comma (after_comma kind (b || is_first rows)) comma_mark refl (on kind (b || is_first rows) w)
    where
      on :
          (k : Kind) (source : Bool) → Ends kind (reading field 0 false b (row_with (pos v) row) rows) l records →
          Ends kind (reading (after_comma k source) 0 false b (row_with (pos v) row) rows) l records
      on Production source w = w
      on Tariff true w = w
      on Tariff false w = empty_as_field b (row_with (pos v) row) rows l w

  record-as-field : (rows : List (List ℤ)) (l : List ℕ) → kind ≡ Production →
      Ends kind (reading field 0 false false [] rows) l records → Ends kind (reading record_or_end 0 false false [] rows) l records
  unfolding run step may_end records_at_end absorb in_tariff
  record-as-field rows [] p w = absurd (let e = w.at 0 in let z : ◌≡◌ {A = ℕ} 0 1 = cc in omega arith)
  record-as-field rows (x ∷ l) p w = record { at = λ at. on kind p (mark x) at (w.at at) }
    where
      on : (k : Kind) → k ≡ Production → (m : Mark) (at : ℕ) →
          (let f : Form = elim (step k (false || is_first rows) field m) [ none ↦ broken (place_of field m at) | some t ↦ run kind (suc at) (absorb m t (reading field 0 false false [] rows)) l ] in f) ≡
          whole records →
          (let f : Form = elim (step k (false || is_first rows) record_or_end m)
          [ none ↦ broken (place_of record_or_end m at) | some t ↦ run kind (suc at) (absorb m t (reading record_or_end 0 false false [] rows)) l ] in
          f) ≡
          whole records
      on k p (digit d) at h = h
      on Production p minus at h = h
      on Tariff p minus at h = absurd (let z : ◌≡◌ {A = ℕ} 0 1 = cc in omega arith)
      on k p quote at h = h
      on k p comma at h = h
      on k p cr at h = h
      on k p lf at h = h
      on k p other at h = h

  line_ends : (b : Bool) (v : ℕ) (row : List ℤ) (rows : List (List ℤ)) (l : List ℕ) →
      Ends kind (reading field 0 false false [] (rows_with (pos v) row rows)) l records → Ends kind (reading closed v false b row rows) (13 ∷ 10 ∷ l) records
  unfolding step absorb after_line
  line_ends b v row rows l w =
      by_byte (reading closed v false b row rows) 13 cr line_end cr_mark refl
      (by_byte (reading line_end 0 false false [] (rows_with (pos v) row rows)) 10 lf (after_line kind) lf_mark refl (on kind refl w))
    where
      on : (k : Kind) → kind ≡ k → Ends kind (reading field 0 false false [] (rows_with (pos v) row rows)) l records →
          Ends kind (reading (after_line k) 0 false false [] (rows_with (pos v) row rows)) l records
      on Tariff e w = w
      on Production e w = record-as-field (rows_with (pos v) row rows) l e w

  -- ---- a record
  row_ends : (f : Field) (fs : List Field) → Fields kind f fs → (b : Bool) (row : List ℤ) (rows : List (List ℤ)) (l : List ℕ) →
      ((v : ℕ) (row' : List ℤ) → row_with (pos v) row' ≡ row ++ map number_in (f ∷ fs) → Ends kind (reading closed v false (rebate_in b f fs) row' rows) l records) →
      Ends kind (reading field 0 false b row rows) (record_text f fs ++ l) records
  unfolding record_text
  row_ends f [] i b row rows l w =
      field_ends f i.is (λ e. absurd (true≢false (sym e ∙ i.plain))) b row rows l
      (let v = value_after 0 f.digits in
      let e = i.plain in
      let k : row_with (pos v) row ≡ row ++ (number_in f ∷ []) = ap (λ (m : Bool). row ++ (signed m v ∷ [])) (sym e) in
      let h = w v row k in
      let done' : Ends kind (reading (closed_as f.negative) v f.negative (f.negative || b) row rows) l records =
      subst (λ (m : Bool). Ends kind (reading (closed_as m) v m (f.negative || b) row rows) l records) (sym e) h in
      done')
  row_ends f (g ∷ fs) i b row rows l w =
      subst (λ (x : List ℕ). Ends kind (reading field 0 false b row rows) x records) (sym (append_assoc (field_text f) (44 ∷ record_text g fs) l))
      (field_ends f i.0 i.1 b row rows (44 ∷ (record_text g fs ++ l))
      (comma_ends f.negative (f.negative || b) (value_after 0 f.digits) row rows (record_text g fs ++ l)
      (row_ends g fs i.2 (f.negative || b) (row_with (machine.signed f.negative (value_after 0 f.digits)) row) rows l
      (λ v row' e. w v row' (e ∙ rw (same_signed f.negative (value_after 0 f.digits)) (append_assoc row (number_in f ∷ []) (map number_in (g ∷ fs))))))))

  -- records before a last text
  lines_end : (rs : List Row) → Each (RowOf kind) rs → (rows : List (List ℤ)) (last : List ℕ) →
      Ends kind (reading field 0 false false [] (rows ++ map numbers_in rs)) last records → Ends kind (reading field 0 false false [] rows) (lines_before rs last) records
  unfolding lines_before
  lines_end [] i rows last w = subst (λ (x : List (List ℤ)). Ends kind (reading field 0 false false [] x) last records) (append-nil rows) w
  lines_end (r ∷ rs) i rows last w =
      row_ends r.first r.others i.0 false [] rows (13 ∷ 10 ∷ lines_before rs last)
      (λ v row' e. line_ends (rebate_in false r.first r.others) v row' rows (lines_before rs last)
      (lines_end rs i.1 (rows_with (pos v) row' rows) last
      (subst (λ (x : List (List ℤ)). Ends kind (reading field 0 false false [] x) last records)
      (sym (append_assoc rows (row_with (pos v) row' ∷ []) (map numbers_in rs) ∙ ap (λ (x : List ℤ). rows ++ (x ∷ map numbers_in rs)) e)) w)))

-- ---- the two files
plain_fields : (kind : Kind) (f : Field) (fs : List Field) → Each IsPlain (f ∷ fs) → Fields kind f fs
plain_fields kind f [] i = i.0
plain_fields kind f (g ∷ fs) i = (i.0.is, λ e. absurd (true≢false (sym e ∙ i.0.plain)), plain_fields kind g fs i.1)

plain_rows : (kind : Kind) (rs : List Row) → Each PlainRow rs → Each (RowOf kind) rs
plain_rows kind [] i = tt
plain_rows kind (r ∷ rs) i = (plain_fields kind r.first r.others i.0, plain_rows kind rs i.1)

source_fields : (f : Field) (fs : List Field) → IsSource f fs → Fields Tariff f fs
source_fields f [] i = i
source_fields f (g ∷ fs) i = (i.0, λ e. refl, source_fields g fs i.1)

source_rows : (rs : List Row) → Each SourceRow rs → Each (RowOf Tariff) rs
source_rows [] i = tt
source_rows (r ∷ rs) i = (source_fields r.first r.others i.0, source_rows rs i.1)

-- no minus in a plain record
plain_rebate : (f : Field) (fs : List Field) → Each IsPlain (f ∷ fs) → rebate_in false f fs ≡ false
plain_rebate f [] i = rw i.0.plain refl
plain_rebate f (g ∷ fs) i = let e = i.0.plain in rw e (plain_rebate g fs i.1)

production_ends : (ended : Bool) (b : Bool) (v : ℕ) (row : List ℤ) (rows : List (List ℤ)) → Ends Production (reading closed v false b row rows) (grammar.line_end ended) (rows_with (pos v) row rows)
unfolding run may_end records_at_end is_production step absorb after_line
production_ends false b v row rows = record { at = λ at. refl }
production_ends true b v row rows =
    by_byte (reading closed v false b row rows) 13 cr line_end cr_mark refl
    (by_byte (reading line_end 0 false false [] (rows_with (pos v) row rows)) 10 lf record_or_end lf_mark refl (record { at = λ at. refl }))

tariff_ends : (ended : Bool) (v : ℕ) (row : List ℤ) (rows : List (List ℤ)) → is_first rows ≡ false →
    Ends Tariff (reading closed v false false row rows) (44 ∷ grammar.line_end ended) (rows_with (pos 0) (row_with (pos v) row) rows)
unfolding run may_end records_at_end step absorb after_comma
tariff_ends false v row rows e =
    by_byte (reading closed v false false row rows) 44 comma field_or_empty comma_mark (rw e refl) (record { at = λ at. refl })
tariff_ends true v row rows e =
    by_byte (reading closed v false false row rows) 44 comma field_or_empty comma_mark (rw e refl)
    (by_byte (reading field_or_empty 0 false false (row_with (pos v) row) rows) 13 cr last_line_end cr_mark refl
    (by_byte (reading last_line_end 0 false false [] (rows_with (pos 0) (row_with (pos v) row) rows)) 10 lf done lf_mark refl (record { at = λ at. refl })))

production_accepted : (bytes : List ℕ) (records : List (List ℤ)) → IsProduction bytes records → form_of Production bytes ≡ whole records
unfolding form_of
production_accepted bytes records p =
    let rows = map numbers_in p.before in
    let ends : Ends Production (reading field 0 false false [] []) (lines_before p.before (row_text p.last ++ grammar.line_end p.ended)) records =
    lines_end p.before (plain_rows Production p.before p.plain) [] (row_text p.last ++ grammar.line_end p.ended)
    (row_ends p.last.first p.last.others (plain_fields Production p.last.first p.last.others p.plain_last) false [] rows (grammar.line_end p.ended)
    (λ v row' e. subst (λ (x : List (List ℤ)). Ends Production (reading closed v false (rebate_in false p.last.first p.last.others) row' rows) (grammar.line_end p.ended) x)
    (ap (λ (x : List ℤ). rows ++ (x ∷ [])) e ∙ sym p.numbers) (production_ends p.ended (rebate_in false p.last.first p.last.others) v row' rows))) in
    ap (λ (l : List ℕ). run Production 0 (reading field 0 false false [] []) l) p.text ∙ ends.at 0

tariff_accepted : (bytes : List ℕ) (records : List (List ℤ)) → IsTariff bytes records → form_of Tariff bytes ≡ whole records
unfolding form_of
tariff_accepted bytes records p =
    let sources = p.first ∷ p.others in
    let rows = map numbers_in sources in
    let f = p.demands.first in
    let fs = p.demands.others in
    let last = grammar.line_end p.ended in
    let ends : Ends Tariff (reading field 0 false false [] []) (lines_before sources (row_text p.demands ++ (44 ∷ last))) records =
    lines_end sources (source_rows sources p.sources) [] (row_text p.demands ++ (44 ∷ last))
    (row_ends f fs (plain_fields Tariff f fs p.plain) false [] rows (44 ∷ last)
    (λ v row' e. subst (λ (x : List (List ℤ)). Ends Tariff (reading closed v false (rebate_in false f fs) row' rows) (44 ∷ last) x)
    (ap (λ (x : List ℤ). rows ++ ((x ++ (pos 0 ∷ [])) ∷ [])) e ∙ sym p.numbers)
    (subst (λ (b : Bool). Ends Tariff (reading closed v false b row' rows) (44 ∷ last) (rows_with (pos 0) (row_with (pos v) row') rows)) (sym (plain_rebate f fs p.plain))
    (tariff_ends p.ended v row' rows refl)))) in
    ap (λ (l : List ℕ). run Tariff 0 (reading field 0 false false [] []) l) p.text ∙ ends.at 0

-- a file of the form is accepted
pub accepted : (kind : Kind) (bytes : List ℕ) (records : List (List ℤ)) → HasForm kind bytes records → form_of kind bytes ≡ whole records
accepted Tariff bytes records p = tariff_accepted bytes records p
accepted Production bytes records p = production_accepted bytes records p
