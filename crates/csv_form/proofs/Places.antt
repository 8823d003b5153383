-- The place of refusal 21: no file of the form begins with the bytes up to the byte that settles it, and some file of the form begins with the bytes
-- before that. This byte is the place itself, with one exception: it is a digit after a 0 that stands first in its number, and the place is that 0.
-- Assumes nothing.
use mathlib.Core.Path.{◌≡◌, refl, ap, sym, ◌∙◌, subst}
use mathlib.Core.Bool.{Bool, true, false, true≢false, false≢true}
use mathlib.Core.Option.{Option, none, some}
use mathlib.Core.List.{List, [], ◌∷◌, ◌++◌}
use Prim.Native.Nat.{ℕ, zero, suc, ◌+◌, ◌-◌, ◌≤◌, ◌<◌}
use native.Mathlib.Omega.{arith}
use lib.IntN.{ℤ}
use lib.ListN.{length, take, drop, get_or, length-drop}
use lib.Seq.{drop-cons}
use Rattle.csv_form.specs.declared.Kind.{Kind}
use Rattle.csv_form.specs.declared.Kind.TheVariants.{Tariff, Production}
use Rattle.csv_form.specs.Form.{
  Mark,
  digit,
  minus,
  quote,
  comma,
  cr,
  lf,
  other,
  mark,
  State,
  field,
  field_or_empty,
  record_or_end,
  opened,
  bare,
  quoted,
  zeroBare,
  zeroQuoted,
  closed,
  minusBare,
  minusQuoted,
  bare_cost,
  quoted_cost,
  closed_cost,
  line_end,
  last_line_end,
  done,
  more,
  leading,
  after_comma,
  after_line,
  in_tariff,
  row,
  step,
  after_zero,
  place_of,
  may_end,
}
use Rattle.csv_form.specs.Records.{Reading, reading, run, absorb, is_source, records_at_end, Form, whole, broken, form_of}
use Rattle.csv_form.specs.inner.Reader.{digit_or10}
use Rattle.csv_form.proofs.ByteMarks.{mark_digit, digit_found, nothing_ten, mark_zero, digit_small}
use Rattle.csv_form.proofs.Viable.{viable}

-- ---- a 0 that stands first in a number of several digits

-- a digit stands before an offset
abbrev pub DigitBefore : List ℕ → ℕ → Type 0
DigitBefore l zero = ⊥
DigitBefore l (suc i) = digit_or10 (mark (get_or l i 0)) ≤ 9

-- the byte at an offset is such a 0: no digit stands before it, and one after it
pub record Leads (l : List ℕ) (i : ℕ) : Type 0 where
  pub is_zero_lem : get_or l i 0 ≡ 48
  pub stands_first : DigitBefore l i → ⊥
  pub goes_on : digit_or10 (mark (get_or l (suc i) 0)) ≤ 9

-- ---- what a byte says of the state after it

-- after a 0 that a number begins with
abbrev is_zero : State → Bool
is_zero field = false
is_zero field_or_empty = false
is_zero record_or_end = false
is_zero opened = false
is_zero (bare left) = false
is_zero (quoted left) = false
is_zero zeroBare = true
is_zero zeroQuoted = true
is_zero closed = false
is_zero minusBare = false
is_zero minusQuoted = false
is_zero (bare_cost left) = false
is_zero (quoted_cost left) = false
is_zero closed_cost = false
is_zero line_end = false
is_zero last_line_end = false
is_zero done = false

-- after a digit
abbrev in_digits : State → Bool
in_digits field = false
in_digits field_or_empty = false
in_digits record_or_end = false
in_digits opened = false
in_digits (bare left) = true
in_digits (quoted left) = true
in_digits zeroBare = true
in_digits zeroQuoted = true
in_digits closed = false
in_digits minusBare = false
in_digits minusQuoted = false
in_digits (bare_cost left) = true
in_digits (quoted_cost left) = true
in_digits closed_cost = false
in_digits line_end = false
in_digits last_line_end = false
in_digits done = false

abbrev is_digit : Mark → Bool
is_digit (digit k) = true
is_digit minus = false
is_digit quote = false
is_digit comma = false
is_digit cr = false
is_digit lf = false
is_digit other = false

-- a byte of the mark m, after a digit or not: a state of the first kind is reached by a 0 after no digit and by no other byte, and a 0 after no digit
-- reaches no other state; a state of the second kind is reached by digits
record OnByte (d : Bool) (o : Option State) (m : Mark) : Type 0 where
  first : (s : State) → o ≡ some s → is_zero s ≡ true → (m ≡ digit 0) × (d ≡ false)
  later : (s : State) → o ≡ some s → is_zero s ≡ false → m ≡ digit 0 → d ≡ true
  digits : (s : State) → o ≡ some s → in_digits s ≡ is_digit m

no_state : (s : State) → ◌≡◌ {A = Option State} none (some s) → ⊥
no_state s e = let k : ◌≡◌ {A = ℕ} 0 1 = cc in omega arith

same_state : (s t : State) → ◌≡◌ {A = Option State} (some s) (some t) → t ≡ s
same_state s t e = cc

nowhere : {d : Bool} {m : Mark} → OnByte d none m
nowhere = record {
  first = λ s e z. absurd (no_state s e);
  later = λ s e z k. absurd (no_state s e);
  digits = λ s e. absurd (no_state s e);
}

-- a byte that is no digit
elsewhere : (s : State) {d : Bool} {m : Mark} → is_zero s ≡ false → in_digits s ≡ false → is_digit m ≡ false → OnByte d (some s) m
elsewhere s f g n = record {
  first = λ t e z. absurd (true≢false (sym z ∙ ap is_zero (same_state s t e) ∙ f));
  later = λ t e z k. absurd (true≢false (sym (ap is_digit k) ∙ n));
  digits = λ t e. ap in_digits (same_state s t e) ∙ g ∙ sym n;
}

-- a digit after a digit
further : (s : State) {k : ℕ} → is_zero s ≡ false → in_digits s ≡ true → OnByte true (some s) (digit k)
further s f g = record {
  first = λ t e z. absurd (true≢false (sym z ∙ ap is_zero (same_state s t e) ∙ f));
  later = λ t e z k. refl;
  digits = λ t e. ap in_digits (same_state s t e) ∙ g;
}

-- the first digit: not 0, or a 0
not_zero : (s : State) (k : ℕ) → is_zero s ≡ false → in_digits s ≡ true → OnByte false (some s) (digit (suc k))
not_zero s k f g = record {
  first = λ t e z. absurd (true≢false (sym z ∙ ap is_zero (same_state s t e) ∙ f));
  later = λ t e z j. absurd (let q : suc k ≡ 0 = ap digit_or10 j in omega arith);
  digits = λ t e. ap in_digits (same_state s t e) ∙ g;
}

a_zero : (s : State) → is_zero s ≡ true → in_digits s ≡ true → OnByte false (some s) (digit 0)
a_zero s f g = record {
  first = λ t e z. (refl, refl);
  later = λ t e z j. absurd (true≢false (sym f ∙ ap is_zero (sym (same_state s t e)) ∙ z));
  digits = λ t e. ap in_digits (same_state s t e) ∙ g;
}

first_digit :
    (z s : State) (k : ℕ) → is_zero z ≡ true → in_digits z ≡ true → is_zero s ≡ false → in_digits s ≡ true → OnByte false (leading (some z) s k) (digit k)
unfolding leading
first_digit z s zero e d f g = a_zero z e d
first_digit z s (suc k) e d f g = not_zero s k f g

cost_digit : (s : State) (k : ℕ) → is_zero s ≡ false → in_digits s ≡ true → OnByte false (leading none s k) (digit k)
unfolding leading
cost_digit s zero f g = nowhere
cost_digit s (suc k) f g = not_zero s k f g

more_digits : (within : ℕ → State) (left k : ℕ) → ((j : ℕ) → is_zero (within j) ≡ false) → ((j : ℕ) → in_digits (within j) ≡ true) → OnByte true (more within left) (digit k)
unfolding more
more_digits within zero k f g = nowhere
more_digits within (suc left) k f g = further (within left) (f left) (g left)

minus_state : (kind : Kind) (s : State) {d : Bool} → is_zero s ≡ false → in_digits s ≡ false → OnByte d (in_tariff kind s) minus
unfolding in_tariff
minus_state Production s f g = nowhere
minus_state Tariff s f g = elsewhere s f g refl

comma_state : (kind : Kind) (source : Bool) {d : Bool} → OnByte d (some (after_comma kind source)) comma
unfolding after_comma
comma_state Production source = elsewhere field refl refl refl
comma_state Tariff true = elsewhere field refl refl refl
comma_state Tariff false = elsewhere field_or_empty refl refl refl

line_state : (kind : Kind) {d : Bool} → OnByte d (some (after_line kind)) lf
unfolding after_line
line_state Production = elsewhere record_or_end refl refl refl
line_state Tariff = elsewhere field refl refl refl

by_row :
    {b : Bool} {d : ℕ → Option State} {n q c r l : Option State} → ((k : ℕ) → OnByte b (d k) (digit k)) → OnByte b n minus → OnByte b q quote → OnByte b c comma →
    OnByte b r cr → OnByte b l lf → (m : Mark) → OnByte b (row d n q c r l m) m
by_row d n q c r l (digit k) = d k
by_row d n q c r l minus = n
by_row d n q c r l quote = q
by_row d n q c r l comma = c
by_row d n q c r l cr = r
by_row d n q c r l lf = l
by_row d n q c r l other = nowhere

on_byte : (kind : Kind) (source : Bool) (st : State) (m : Mark) → OnByte (in_digits st) (step kind source st m) m
unfolding step
on_byte kind source field m =
    by_row (λ k. first_digit zeroBare (bare 9) k refl refl refl refl) (minus_state kind minusBare refl refl) (elsewhere opened refl refl refl) nowhere nowhere nowhere m
on_byte kind source field_or_empty m =
    by_row (λ k. first_digit zeroBare (bare 9) k refl refl refl refl) (minus_state kind minusBare refl refl) (elsewhere opened refl refl refl) nowhere (elsewhere last_line_end refl refl refl) nowhere m
on_byte kind source record_or_end m = by_row (λ k. first_digit zeroBare (bare 9) k refl refl refl refl) nowhere (elsewhere opened refl refl refl) nowhere nowhere nowhere m
on_byte kind source opened m = by_row (λ k. first_digit zeroQuoted (quoted 9) k refl refl refl refl) (minus_state kind minusQuoted refl refl) nowhere nowhere nowhere nowhere m
on_byte kind source (bare left) m = by_row (λ k. more_digits bare left k (λ j. refl) (λ j. refl)) nowhere nowhere (comma_state kind source) (elsewhere line_end refl refl refl) nowhere m
on_byte kind source (quoted left) m = by_row (λ k. more_digits quoted left k (λ j. refl) (λ j. refl)) nowhere (elsewhere closed refl refl refl) nowhere nowhere nowhere m
on_byte kind source zeroBare m = by_row (λ k. nowhere) nowhere nowhere (comma_state kind source) (elsewhere line_end refl refl refl) nowhere m
on_byte kind source zeroQuoted m = by_row (λ k. nowhere) nowhere (elsewhere closed refl refl refl) nowhere nowhere nowhere m
on_byte kind source closed m = by_row (λ k. nowhere) nowhere nowhere (comma_state kind source) (elsewhere line_end refl refl refl) nowhere m
on_byte kind source minusBare m = by_row (λ k. cost_digit (bare_cost 9) k refl refl) nowhere nowhere nowhere nowhere nowhere m
on_byte kind source minusQuoted m = by_row (λ k. cost_digit (quoted_cost 9) k refl refl) nowhere nowhere nowhere nowhere nowhere m
on_byte kind source (bare_cost left) m = by_row (λ k. more_digits bare_cost left k (λ j. refl) (λ j. refl)) nowhere nowhere (elsewhere field refl refl refl) nowhere nowhere m
on_byte kind source (quoted_cost left) m = by_row (λ k. more_digits quoted_cost left k (λ j. refl) (λ j. refl)) nowhere (elsewhere closed_cost refl refl refl) nowhere nowhere nowhere m
on_byte kind source closed_cost m = by_row (λ k. nowhere) nowhere nowhere (elsewhere field refl refl refl) nowhere nowhere m
on_byte kind source line_end m = by_row (λ k. nowhere) nowhere nowhere nowhere nowhere (line_state kind) m
on_byte kind source last_line_end m = by_row (λ k. nowhere) nowhere nowhere nowhere nowhere (elsewhere done refl refl refl) m
on_byte kind source done m = by_row (λ k. nowhere) nowhere nowhere nowhere nowhere nowhere m

-- ---- the state at an offset, and the bytes before it

digit_yes : (b : ℕ) → is_digit (mark b) ≡ true → digit_or10 (mark b) ≤ 9
digit_yes b e = go (mark b) refl e
  where
    go : (m : Mark) → mark b ≡ m → is_digit m ≡ true → digit_or10 (mark b) ≤ 9
    go (digit d) k z = digit_small b d k
    go minus k z = absurd (false≢true z)
    go quote k z = absurd (false≢true z)
    go comma k z = absurd (false≢true z)
    go cr k z = absurd (false≢true z)
    go lf k z = absurd (false≢true z)
    go other k z = absurd (false≢true z)

digit_no : (b : ℕ) → is_digit (mark b) ≡ false → digit_or10 (mark b) ≤ 9 → ⊥
digit_no b e h = true≢false (sym (ap is_digit (digit_found (mark b) h)) ∙ e)

-- before an offset stands a 0 that no digit stands before; the byte there is no 0, or a digit stands before it
abbrev ZeroFirst : List ℕ → ℕ → Type 0
ZeroFirst l zero = ⊥
ZeroFirst l (suc i) = (get_or l i 0 ≡ 48) × (DigitBefore l i → ⊥)

abbrev ZeroLater : List ℕ → ℕ → Type 0
ZeroLater l zero = Unit {0}
ZeroLater l (suc i) = get_or l i 0 ≡ 48 → DigitBefore l i

record Standing (l : List ℕ) (at : ℕ) (st : State) : Type 0 where
  zero_first : is_zero st ≡ true → ZeroFirst l at
  zero_later : is_zero st ≡ false → ZeroLater l at
  after_digit : in_digits st ≡ true → DigitBefore l at
  no_digit : in_digits st ≡ false → DigitBefore l at → ⊥

begun : (l : List ℕ) → Standing l 0 field
begun l = record {
  zero_first = λ z. absurd (false≢true z);
  zero_later = λ z. tt;
  after_digit = λ z. absurd (false≢true z);
  no_digit = λ z h. h;
}

one_more :
    (l : List ℕ) (at : ℕ) (kind : Kind) (source : Bool) (st s : State) → Standing l at st → step kind source st (mark (get_or l at 0)) ≡ some s → Standing l (suc at) s
one_more l at kind source st s w e =
    let o = on_byte kind source st (mark (get_or l at 0)) in
    let d = o.digits s e in
    record {
      zero_first = λ z. (let p = o.first s e z in (mark_zero (get_or l at 0) p.0, w.no_digit p.1));
      zero_later = λ z k. w.after_digit (o.later s e z (ap mark k ∙ mark_digit 48 (omega arith) (omega arith)));
      after_digit = λ z. digit_yes (get_or l at 0) (sym d ∙ z);
      no_digit = λ z h. digit_no (get_or l at 0) (sym d ∙ z) h;
    }

-- ---- where a run breaks off

-- the byte that settles the place of a file's refusal
pub data Which (l : List ℕ) (place settles : ℕ) : Type 0 where
  -- the byte at the place, and before it is no 0 that stands first in a number of several digits
  at_place : settles ≡ place → ((i : ℕ) → settles ≡ suc i → Leads l i → ⊥) → Which l place settles
  -- the digit after such a 0 at the place
  digit_after : settles ≡ suc place → Leads l place → Which l place settles

-- where the byte before is no such 0
settled_plain : (l : List ℕ) (at place : ℕ) (st : State) → Standing l at st → is_zero st ≡ false → place ≡ at → Which l place at
settled_plain l at place st w z e = at_place (sym e) (go at (w.zero_later z))
  where
    go : (at : ℕ) → ZeroLater l at → (i : ℕ) → at ≡ suc i → Leads l i → ⊥
    go zero k i p h = omega arith
    go (suc j) k i p h =
        let q : i ≡ j = omega arith in
        h.stands_first (subst (λ (x : ℕ). DigitBefore l x) (sym q) (k (subst (λ (x : ℕ). get_or l x 0 ≡ 48) q h.is_zero_lem)))

-- where the byte at the offset is no digit
settled_other : (l : List ℕ) (at place : ℕ) → (digit_or10 (mark (get_or l at 0)) ≤ 9 → ⊥) → place ≡ at → Which l place at
settled_other l at place n e = at_place (sym e) (λ i p h. n (subst (λ (x : ℕ). digit_or10 (mark (get_or l x 0)) ≤ 9) (sym p) h.goes_on))

-- where it is one and the byte before is such a 0
settled_digit : (l : List ℕ) (at place : ℕ) → ZeroFirst l at → digit_or10 (mark (get_or l at 0)) ≤ 9 → place ≡ at - 1 → Which l place at
settled_digit l zero place z d e = absurd z
settled_digit l (suc i) place z d e =
    let q : i ≡ place = omega arith in
    digit_after (omega arith) (subst (λ (x : ℕ). Leads l x) q (record { is_zero_lem = z.0; stands_first = z.1; goes_on = d }))

-- the place of a byte that has no next state
settle : (l : List ℕ) (at place : ℕ) (st : State) → Standing l at st → place ≡ place_of st (mark (get_or l at 0)) at → Which l place at
settle l at place st w e = go st w e
  where
    zeros : (st : State) (m : Mark) → mark (get_or l at 0) ≡ m → ZeroFirst l at → place ≡ after_zero m at → Which l place at
    zeros st (digit d) k z e = settled_digit l at place z (digit_small (get_or l at 0) d k) e
    zeros st minus k z e = settled_other l at place (digit_no (get_or l at 0) (ap is_digit k)) e
    zeros st quote k z e = settled_other l at place (digit_no (get_or l at 0) (ap is_digit k)) e
    zeros st comma k z e = settled_other l at place (digit_no (get_or l at 0) (ap is_digit k)) e
    zeros st cr k z e = settled_other l at place (digit_no (get_or l at 0) (ap is_digit k)) e
    zeros st lf k z e = settled_other l at place (digit_no (get_or l at 0) (ap is_digit k)) e
    zeros st other k z e = settled_other l at place (digit_no (get_or l at 0) (ap is_digit k)) e

    go : (st : State) → Standing l at st → place ≡ place_of st (mark (get_or l at 0)) at → Which l place at
    go field w e = settled_plain l at place field w refl e
    go field_or_empty w e = settled_plain l at place field_or_empty w refl e
    go record_or_end w e = settled_plain l at place record_or_end w refl e
    go opened w e = settled_plain l at place opened w refl e
    go (bare left) w e = settled_plain l at place (bare left) w refl e
    go (quoted left) w e = settled_plain l at place (quoted left) w refl e
    go zeroBare w e = zeros zeroBare (mark (get_or l at 0)) refl (w.zero_first refl) e
    go zeroQuoted w e = zeros zeroQuoted (mark (get_or l at 0)) refl (w.zero_first refl) e
    go closed w e = settled_plain l at place closed w refl e
    go minusBare w e = settled_plain l at place minusBare w refl e
    go minusQuoted w e = settled_plain l at place minusQuoted w refl e
    go (bare_cost left) w e = settled_plain l at place (bare_cost left) w refl e
    go (quoted_cost left) w e = settled_plain l at place (quoted_cost left) w refl e
    go closed_cost w e = settled_plain l at place closed_cost w refl e
    go line_end w e = settled_plain l at place line_end w refl e
    go last_line_end w e = settled_plain l at place last_line_end w refl e
    go done w e = settled_plain l at place done w refl e

-- of the file l: a run of its bytes l' from an offset on
record Place (kind : Kind) (l : List ℕ) (at : ℕ) (r : Reading) (l' : List ℕ) (place : ℕ) : Type 0 where
  offset : ℕ
  which : Which l place (at + offset)
  upto : offset ≤ length l'
  no_file : offset < length l' → (t : List ℕ) → run kind at r (take (suc offset) l' ++ t) ≡ broken place
  bytes : List ℕ
  records : List (List ℤ)
  some_file : run kind at r (take offset l' ++ bytes) ≡ whole records

here_broken :
    (kind : Kind) (l : List ℕ) (at place : ℕ) (r : Reading) (l' : List ℕ) → Which l place at →
    (0 < length l' → (t : List ℕ) → run kind at r (take 1 l' ++ t) ≡ broken place) → Place kind l at r l' place
here_broken kind l at place r l' which no_file = let w = viable kind at r.state r.value r.negative r.rebate r.row r.rows in record {
  offset = 0;
  which = subst (λ (x : ℕ). Which l place x) (let q : at ≡ at + 0 = omega arith in q) which;
  upto = omega arith;
  no_file = no_file;
  bytes = w.bytes;
  records = w.records;
  some_file = w.ends;
}

-- one byte of a run
run_none :
    (kind : Kind) (at : ℕ) (r : Reading) (b : ℕ) (l : List ℕ) → step kind (is_source r) r.state (mark b) ≡ none →
    run kind at r (b ∷ l) ≡ broken (place_of r.state (mark b) at)
unfolding run
run_none kind at r b l e = rw (e, run)

run_some :
    (kind : Kind) (at : ℕ) (r : Reading) (b : ℕ) (l : List ℕ) (s : State) → step kind (is_source r) r.state (mark b) ≡ some s →
    run kind at r (b ∷ l) ≡ run kind (suc at) (absorb (mark b) s r) l
unfolding run
run_some kind at r b l s e = rw (e, run)

run_end : (kind : Kind) (at place : ℕ) (r : Reading) → run kind at r [] ≡ broken place → place ≡ at
unfolding run
run_end kind at place r e = go (may_end kind r.state) e
  where
    go : (b : Bool) → elim b as (λ x. Form) [ true ↦ whole (records_at_end r.state r) | false ↦ broken at ] ≡ broken place → place ≡ at
    go true k = absurd (let z : ◌≡◌ {A = ℕ} 0 1 = cc in omega arith)
    go false k = cc

-- the state of a reading after a byte
absorb_state : (m : Mark) (s : State) (r : Reading) → (absorb m s r).state ≡ s
unfolding absorb
absorb_state (digit d) s r = refl
absorb_state minus s r = refl
absorb_state quote s r = refl
absorb_state comma s r = refl
absorb_state cr s r = refl
absorb_state lf s r = refl
absorb_state other s r = refl

-- the first of the bytes that are left
left_head : (l : List ℕ) (at b : ℕ) (l' : List ℕ) → drop at l ≡ b ∷ l' → (get_or l at 0 ≡ b) × (drop (suc at) l ≡ l')
left_head l at b l' e =
    let h : at < length l = (let n : length (drop at l) ≡ suc (length l') = ap length e in omega (arith, length-drop at l)) in
    let k : get_or l at 0 ∷ drop (suc at) l ≡ b ∷ l' = sym (drop-cons l at 0 h) ∙ e in
    (cc, cc)

places :
    (kind : Kind) (l : List ℕ) (at place : ℕ) (r : Reading) (l' : List ℕ) → drop at l ≡ l' → Standing l at r.state → run kind at r l' ≡ broken place → Place kind l at r l' place
places kind l at place r [] left w e =
    let h : length l ≤ at = (let n : length (drop at l) ≡ 0 = ap length left in omega (arith, length-drop at l)) in
    here_broken kind l at place r [] (settled_other l at place (λ d. omega (arith, nothing_ten l at h)) (run_end kind at place r e)) (λ k. absurd (omega arith))
places kind l at place r (b ∷ l') left w e =
    let p = left_head l at b l' left in
    go (step kind (is_source r) r.state (mark b)) refl p.0 (λ s z k. places kind l (suc at) place (absorb (mark b) s r) l' p.1 z k)
  where
    go : (o : Option State) → step kind (is_source r) r.state (mark b) ≡ o → get_or l at 0 ≡ b →
        ((s : State) → Standing l (suc at) (absorb (mark b) s r).state → run kind (suc at) (absorb (mark b) s r) l' ≡ broken place → Place kind l (suc at) (absorb (mark b) s r) l' place) →
        Place kind l at r (b ∷ l') place
    go none k q ih =
        let p : place ≡ place_of r.state (mark b) at = (let q : broken place ≡ broken (place_of r.state (mark b) at) = sym e ∙ run_none kind at r b l' k in cc) in
        here_broken kind l at place r (b ∷ l') (settle l at place r.state w (p ∙ ap (λ (x : ℕ). place_of r.state (mark x) at) (sym q)))
        (λ h t. run_none kind at r b t k ∙ ap broken (sym p))
    go (some s) k q ih =
        let z = one_more l at kind (is_source r) r.state s w (ap (λ (x : ℕ). step kind (is_source r) r.state (mark x)) q ∙ k) in
        let w' = ih s (subst (λ (x : State). Standing l (suc at) x) (sym (absorb_state (mark b) s r)) z) (sym (run_some kind at r b l' s k) ∙ e) in
        record {
          offset = suc w'.offset;
          which = subst (λ (x : ℕ). Which l place x) (let n : suc at + w'.offset ≡ at + suc w'.offset = omega arith in n) w'.which;
          upto = omega (arith, w'.upto);
          no_file = λ h t. run_some kind at r b (take (suc w'.offset) l' ++ t) s k ∙ w'.no_file (omega arith) t;
          bytes = w'.bytes;
          records = w'.records;
          some_file = run_some kind at r b (take w'.offset l' ++ w'.bytes) s k ∙ w'.some_file;
        }

-- refusal 21 of a file: some file of the form begins with the bytes before the one that settles it, none with that one too; the place is that byte's
-- or, where it is a digit after a 0 that stands first in its number, that 0's; or the file ends too soon, and the place is its length
pub record FirstWrong (kind : Kind) (l : List ℕ) (place : ℕ) : Type 0 where
  pub settles : ℕ
  pub which : Which l place settles
  pub upto : settles ≤ length l
  pub no_file : settles < length l → (t : List ℕ) → form_of kind (take (suc settles) l ++ t) ≡ broken place
  pub bytes : List ℕ
  pub records : List (List ℤ)
  pub some_file : form_of kind (take settles l ++ bytes) ≡ whole records

pub first_wrong : (kind : Kind) (l : List ℕ) (place : ℕ) → form_of kind l ≡ broken place → FirstWrong kind l place
unfolding form_of
first_wrong kind l place e =
    let w = places kind l 0 place (reading field 0 false false [] []) l refl (begun l) e in
    record {
      settles = w.offset;
      which = subst (λ (x : ℕ). Which l place x) (let q : 0 + w.offset ≡ w.offset = omega arith in q) w.which;
      upto = w.upto;
      no_file = w.no_file;
      bytes = w.bytes;
      records = w.records;
      some_file = w.some_file;
    }
