-- How the reader goes over what is written: digits, fields and records. Assumes nothing.
use mathlib.Core.Path.{◌≡◌, refl, ap, sym, ◌∙◌, subst}
use mathlib.Core.Bool.{Bool, true, false, ◌||◌}
use mathlib.Core.Option.{some}
use mathlib.Core.List.{List, [], ◌∷◌, ◌++◌, append_assoc}
use Prim.Native.Nat.{ℕ, zero, suc, ◌+◌, ◌*◌, ◌/◌, ◌%◌, ◌-◌, ◌≤◌, ◌<◌, ◌^◌}
use native.Mathlib.Omega.{arith}
use native.Mathlib.Decide.{dec_lt}
use native.Mathlib.Nat.{pow-suc, add-zero}
use native.Mathlib.Numerals.{add-one}
use lib.IntN.{ℤ, pos, negsuc, nat_abs}
use lib.ListN.{length, length-append}
use Rattle.csv_print.specs.Text.{decimal, signed_text, field_text, record_text}
use Rattle.csv_print.proofs.DecimalTexts.{decimal_small, decimal_large}
use Rattle.csv_form.specs.declared.Kind.{Kind}
use Rattle.csv_form.specs.declared.Kind.TheVariants.{Tariff}
use Rattle.csv_form.specs.Form.{
  Mark,
  digit,
  minus,
  comma,
  cr,
  mark,
  State,
  field,
  field_or_empty,
  record_or_end,
  bare,
  zeroBare,
  minusBare,
  bare_cost,
  line_end,
  step,
  leading,
  more,
  in_tariff,
  after_comma,
  after_line,
}
use Rattle.csv_form.specs.Records.{Reading, reading, run, absorb, is_first, is_source, row_with, rows_with}
use Rattle.csv_form.proofs.ByteMarks.{mark_digit}
use Rattle.case_texts.specs.Texts.{line_text}

-- the reader goes over a text from one reading to another, whatever comes after it
pub record Goes (kind : Kind) (r : Reading) (text : List ℕ) (r' : Reading) : Type 0 where
  pub on : (at : ℕ) (l : List ℕ) → run kind at r (text ++ l) ≡ run kind (at + length text) r' l

pub goes_none : (kind : Kind) (r : Reading) → Goes kind r [] r
goes_none kind r = record { on = λ at l. ap (λ (n : ℕ). run kind n r l) (sym (add-zero at)) }

pub goes_then : {kind : Kind} {r r' r'' : Reading} {x y : List ℕ} → Goes kind r x r' → Goes kind r' y r'' → Goes kind r (x ++ y) r''
goes_then {kind} {r} {r'} {r''} {x} {y} f g = record {
  on = λ at l.
      let e : at + length x + length y ≡ at + length (x ++ y) = omega (arith, length-append x y) in
      ap (λ (t : List ℕ). run kind at r t) (append_assoc x y l) ∙ f.on at (y ++ l) ∙ g.on (at + length x) l ∙ ap (λ (n : ℕ). run kind n r'' l) e;
}

-- one byte
pub goes_byte : (kind : Kind) (r : Reading) (b : ℕ) (s : State) → step kind (is_source r) r.state (mark b) ≡ some s → Goes kind r (b ∷ []) (absorb (mark b) s r)
unfolding run
goes_byte kind r b s e = record {
  on = λ at l.
      let a : run kind at r (b ∷ l) ≡ run kind (suc at) (absorb (mark b) s r) l = rw (e, run) refl in
      a ∙ ap (λ (n : ℕ). run kind n (absorb (mark b) s r) l) (sym (add-one at));
}

-- one digit
digit_mark : (d : ℕ) → d ≤ 9 → mark (48 + d) ≡ digit d
digit_mark d h = mark_digit (48 + d) (omega arith) (omega arith) ∙ ap digit (let e : 48 + d - 48 ≡ d = omega arith in e)

goes_digit :
    (kind : Kind) (s s' : State) (v d : ℕ) (n b : Bool) (r : List ℤ) (rs : List (List ℤ)) → d ≤ 9 → step kind (b || is_first rs) s (digit d) ≡ some s' →
    Goes kind (reading s v n b r rs) ((48 + d) ∷ []) (reading s' (v * 10 + d) n b r rs)
unfolding absorb
goes_digit kind s s' v d n b r rs h e =
    let m = digit_mark d h in
    subst (λ (k : Mark). Goes kind (reading s v n b r rs) ((48 + d) ∷ []) (absorb k s' (reading s v n b r rs))) m
    (goes_byte kind (reading s v n b r rs) (48 + d) s' (ap (λ (k : Mark). step kind (b || is_first rs) s k) m ∙ e))

-- a number that is not 0, of at most k + 1 digits, is read as that number; as many digits more may come as it has fewer than ten
pub record Counted (kind : Kind) (s : State) (within : ℕ → State) (k v : ℕ) (n b : Bool) (r : List ℤ) (rs : List (List ℤ)) : Type 0 where
  pub left : ℕ
  pub enough : 9 ≤ left + k
  pub goes : Goes kind (reading s 0 n b r rs) (decimal v) (reading (within left) v n b r rs)

-- bare numbers and costs behind a minus differ in their first state, and in the states that count the digits left
module _ (kind : Kind) (s : State) (within : ℕ → State) (n b : Bool) (r : List ℤ) (rs : List (List ℤ))
    (first : (d : ℕ) → step kind (b || is_first rs) s (digit (suc d)) ≡ some (within 9))
    (next : (left d : ℕ) → step kind (b || is_first rs) (within (suc left)) (digit d) ≡ some (within left)) where
  one_digit : (k v : ℕ) → 1 ≤ v → v < 10 → Counted kind s within k v n b r rs
  one_digit k zero h l = absurd (omega arith)
  one_digit k (suc d) h l =
      let e : 0 * 10 + suc d ≡ suc d = omega arith in
      record {
        left = 9;
        enough = omega arith;
        goes =
            subst (λ (x : List ℕ). Goes kind (reading s 0 n b r rs) x (reading (within 9) (suc d) n b r rs)) (sym (decimal_small (suc d) l))
            (subst (λ (v : ℕ). Goes kind (reading s 0 n b r rs) ((48 + suc d) ∷ []) (reading (within 9) v n b r rs)) e
            (goes_digit kind s (within 9) 0 (suc d) n b r rs (omega arith) (first d)));
      }

  one_less : (left d : ℕ) → 1 ≤ left → step kind (b || is_first rs) (within left) (digit d) ≡ some (within (left - 1))
  one_less zero d h = absurd (omega arith)
  one_less (suc left) d h = next left d ∙ ap (λ (k : ℕ). some (within k)) (let e : left ≡ suc left - 1 = omega arith in e)

  digit_more : (k v : ℕ) → 10 ≤ v → k ≤ 8 → Counted kind s within k (v / 10) n b r rs → Counted kind s within (suc k) v n b r rs
  digit_more k v h few c =
      let e : (v / 10) * 10 + v % 10 ≡ v = omega arith in
      record {
        left = c.left - 1;
        enough = omega (arith, c.enough);
        goes =
            subst (λ (t : List ℕ). Goes kind (reading s 0 n b r rs) t (reading (within (c.left - 1)) v n b r rs)) (sym (decimal_large v h))
            (subst (λ (x : ℕ). Goes kind (reading s 0 n b r rs) (decimal (v / 10) ++ ((48 + v % 10) ∷ [])) (reading (within (c.left - 1)) x n b r rs)) e
            (goes_then c.goes
            (goes_digit kind (within c.left) (within (c.left - 1)) (v / 10) (v % 10) n b r rs (omega arith) (one_less c.left (v % 10) (omega (arith, c.enough))))));
      }

  pub digits_go : (k v : ℕ) → k ≤ 9 → 1 ≤ v → v < 10 ^ suc k → Counted kind s within k v n b r rs
  digits_go zero v few up h = one_digit zero v up (omega arith)
  digits_go (suc k) v few up h =
      elim (dec_lt v 10) [
        | yes small ↦ one_digit (suc k) v up small
        | no large ↦ digit_more k v (omega arith) (omega arith) (digits_go k (v / 10) (omega arith) (omega arith) (omega (arith, pow-suc 10 (suc k))))
      ]

-- a comma and CR end a field here
record Ends (kind : Kind) (s : State) : Type 0 where
  by_comma : (source : Bool) → step kind source s comma ≡ some (after_comma kind source)
  by_cr : (source : Bool) → step kind source s cr ≡ some line_end

-- a number may begin here, with 0 or with another digit
pub record Starts (kind : Kind) (s : State) : Type 0 where
  pub by_zero : (source : Bool) → step kind source s (digit 0) ≡ some zeroBare
  pub by_digit : (source : Bool) (d : ℕ) → step kind source s (digit (suc d)) ≡ some (bare 9)

pub starts_field : (kind : Kind) → Starts kind field
unfolding step leading
starts_field kind = record { by_zero = λ source. refl; by_digit = λ source d. refl }

pub starts_empty : (kind : Kind) → Starts kind field_or_empty
unfolding step leading
starts_empty kind = record { by_zero = λ source. refl; by_digit = λ source d. refl }

pub starts_record : (kind : Kind) → Starts kind record_or_end
unfolding step leading
starts_record kind = record { by_zero = λ source. refl; by_digit = λ source d. refl }

record Numbered (kind : Kind) (s : State) (v : ℕ) (b : Bool) (r : List ℤ) (rs : List (List ℤ)) : Type 0 where
  last : State
  ends : Ends kind last
  goes : Goes kind (reading s 0 false b r rs) (decimal v) (reading last v false b r rs)

module _ (kind : Kind) (s : State) (starts : Starts kind s) (b : Bool) (r : List ℤ) (rs : List (List ℤ)) where
  number_goes : (v : ℕ) → v ≤ 9999999999 → Numbered kind s v b r rs
  unfolding step more
  number_goes zero small = record {
    last = zeroBare;
    ends = record { by_comma = λ source. refl; by_cr = λ source. refl };
    goes =
        subst (λ (x : List ℕ). Goes kind (reading s 0 false b r rs) x (reading zeroBare 0 false b r rs)) (sym (decimal_small 0 (omega arith)))
        (goes_digit kind s zeroBare 0 0 false b r rs (omega arith) (starts.by_zero (b || is_first rs)));
  }
  number_goes (suc v) small =
      let c = digits_go kind s bare false b r rs (starts.by_digit (b || is_first rs)) (λ left d. refl) 9 (suc v) (omega arith) (omega arith) (omega arith) in
      record { last = bare c.left; ends = record { by_comma = λ source. refl; by_cr = λ source. refl }; goes = c.goes }

  -- a number with the comma after it, and one with the end of its record
  module _ (v : ℕ) (small : v ≤ 9999999999) where
    numbered : Numbered kind s v b r rs
    numbered = number_goes v small

    pub field_goes : Goes kind (reading s 0 false b r rs) (field_text (pos v) 44) (reading (after_comma kind (b || is_first rs)) 0 false b (row_with (pos v) r) rs)
    unfolding field_text signed_text step mark absorb
    field_goes =
        goes_then numbered.goes
        (goes_byte kind (reading numbered.last v false b r rs) 44 (after_comma kind (b || is_first rs)) (numbered.ends.by_comma (b || is_first rs)))

    pub line_goes : Goes kind (reading s 0 false b r rs) (line_text v) (reading (after_line kind) 0 false false [] (rows_with (pos v) r rs))
    unfolding record_text field_text signed_text step mark absorb
    line_goes =
        goes_then
        (goes_then numbered.goes (goes_byte kind (reading numbered.last v false b r rs) 13 line_end (numbered.ends.by_cr (b || is_first rs))))
        (goes_byte kind (reading line_end 0 false false [] (rows_with (pos v) r rs)) 10 (after_line kind) refl)

-- a cost may begin here, with a minus too
pub record StartsCost (s : State) : Type 0 where
  pub starts : Starts Tariff s
  pub by_minus : (source : Bool) → step Tariff source s minus ≡ some minusBare

pub cost_field : StartsCost field
unfolding step in_tariff
cost_field = record { starts = starts_field Tariff; by_minus = λ source. refl }

cost_comma : (source : Bool) → StartsCost (after_comma Tariff source)
unfolding step in_tariff after_comma
cost_comma true = cost_field
cost_comma false = record { starts = starts_empty Tariff; by_minus = λ source. refl }

-- a cost with the comma after it: the next field is one of the same record
pub record CostRead (s : State) (z : ℤ) (b : Bool) (r : List ℤ) (rs : List (List ℤ)) : Type 0 where
  pub last : State
  pub rebate : Bool
  pub starts : StartsCost last
  pub goes : Goes Tariff (reading s 0 false b r rs) (field_text z 44) (reading last 0 false rebate (row_with z r) rs)

pub cost_goes : (s : State) (b : Bool) (r : List ℤ) (rs : List (List ℤ)) → StartsCost s → (z : ℤ) → nat_abs z ≤ 9999999999 → CostRead s z b r rs
unfolding field_text signed_text step leading more mark absorb
cost_goes s b r rs begins (pos v) small = record {
  last = after_comma Tariff (b || is_first rs);
  rebate = b;
  starts = cost_comma (b || is_first rs);
  goes = field_goes Tariff s begins.starts b r rs v small;
}
cost_goes s b r rs begins (negsuc v) small =
    let c = digits_go Tariff minusBare bare_cost true true r rs (λ d. refl) (λ left d. refl) 9 (suc v) (omega arith) (omega arith) (omega arith) in
    record {
      last = field;
      rebate = true;
      starts = cost_field;
      goes =
          goes_then (goes_then (goes_byte Tariff (reading s 0 false b r rs) 45 minusBare (begins.by_minus (b || is_first rs))) c.goes)
          (goes_byte Tariff (reading (bare_cost c.left) (suc v) true true r rs) 44 field refl);
    }
