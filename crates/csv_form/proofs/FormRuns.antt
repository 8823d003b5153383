-- How a run goes on at an offset. Assumes nothing.
use mathlib.Core.Path.{◌≡◌, refl, ap, sym, ◌∙◌}
use mathlib.Core.Bool.{Bool, true, false, true≢false}
use mathlib.Core.Option.{none, some}
use mathlib.Core.List.{List}
use Prim.Native.Nat.{ℕ, suc, ◌+◌, ◌*◌, ◌-◌, ◌≤◌, ◌<◌}
use native.Mathlib.Omega.{arith}
use native.Mathlib.Decide.{dec_lt}
use native.Mathlib.Numerals.{add-one}
use lib.IntN.{ℤ}
use lib.ListN.{length, get_or, drop, drop_of_length-le}
use lib.Seq.{drop-cons}
use Rattle.csv_form.specs.declared.Kind.{Kind}
use Rattle.csv_form.specs.declared.Kind.TheVariants.{Tariff, Production}
use Rattle.csv_form.specs.Form.{Mark, digit, minus, quote, comma, cr, lf, other, mark, State, field, opened, zeroBare, zeroQuoted, closed}
use Rattle.csv_form.specs.Form.{minusBare, minusQuoted, closed_cost, line_end, last_line_end, in_tariff, leading, step, more, place_of, may_end}
use Rattle.csv_form.specs.Records.{Reading, reading, run, absorb, records_at_end, is_source, Form, whole, broken}
use Rattle.csv_form.specs.inner.Reader.{is_minus, within, closed_as}
use Rattle.csv_form.proofs.ByteMarks.{NotDigit, Seen}

-- after a byte of the mark m
abbrev pub onward : Kind → Reading → Mark → List ℕ → ℕ → ℕ → Form
onward kind r m s at next =
    elim (step kind (is_source r) r.state m) [ none ↦ broken (place_of r.state m at) | some t ↦ run kind next (absorb m t r) (drop next s) ]

-- where the file ends
abbrev pub ended : Kind → Reading → ℕ → Form
ended kind r at = elim (may_end kind r.state) [ true ↦ whole (records_at_end r.state r) | false ↦ broken at ]

pub here : (kind : Kind) (r : Reading) (s : List ℕ) (at : ℕ) (m : Mark) → at < length s → mark (get_or s at 0) ≡ m → run kind at r (drop at s) ≡ onward kind r m s at (at + 1)
unfolding run
here kind r s at m h e = rw (drop-cons s at 0 h, ← e, add-one) refl

pub at_end : (kind : Kind) (r : Reading) (s : List ℕ) (at : ℕ) → length s ≤ at → run kind at r (drop at s) ≡ ended kind r at
unfolding run
at_end kind r s at h = rw (drop_of_length-le s h) refl

-- a byte that no file has there, or the end where no file ends
pub refused :
    (kind : Kind) (r : Reading) (s : List ℕ) (at : ℕ) →
    step kind (is_source r) r.state (mark (get_or s at 0)) ≡ none →
    place_of r.state (mark (get_or s at 0)) at ≡ at →
    may_end kind r.state ≡ false →
    run kind at r (drop at s) ≡ broken at
refused kind r s at no_step clear no_end =
    elim (dec_lt at (length s)) [
      | yes h ↦ here kind r s at (mark (get_or s at 0)) h refl ∙ rw (no_step, onward) (ap broken clear)
      | no h ↦ at_end kind r s at (omega arith) ∙ rw (no_end, ended)
    ]

-- where a number begins: quoted or bare, after a minus or not
abbrev pub start : Bool → Bool → State
start true false = opened
start false false = field
start true true = minusQuoted
start false true = minusBare

minus_none : (kind : Kind) (s : State) → is_minus kind minus ≡ false → in_tariff kind s ≡ none
unfolding in_tariff
minus_none Tariff s e = absurd (true≢false e)
minus_none Production s e = refl

module _ (kind : Kind) (source : Bool) where
  -- what has no next state
  pub no_field : (b : ℕ) (m : Mark) → Seen b m → (b ≡ 34 → ⊥) → is_minus kind m ≡ false → NotDigit m → step kind source field m ≡ none
  unfolding step in_tariff
  no_field b (digit d) k q e h = absurd h
  no_field b minus k q e h = minus_none kind minusBare e
  no_field b quote k q e h = absurd (q k)
  no_field b comma k q e h = refl
  no_field b cr k q e h = refl
  no_field b lf k q e h = refl
  no_field b other k q e h = refl

  pub no_opened : (m : Mark) → is_minus kind m ≡ false → NotDigit m → step kind source opened m ≡ none
  unfolding step in_tariff
  no_opened (digit d) e h = absurd h
  no_opened minus e h = minus_none kind minusQuoted e
  no_opened quote e h = refl
  no_opened comma e h = refl
  no_opened cr e h = refl
  no_opened lf e h = refl
  no_opened other e h = refl

  pub no_signed : (q : Bool) (m : Mark) → NotDigit m → step kind source (start q true) m ≡ none
  unfolding step
  no_signed true (digit d) h = absurd h
  no_signed true minus h = refl
  no_signed true quote h = refl
  no_signed true comma h = refl
  no_signed true cr h = refl
  no_signed true lf h = refl
  no_signed true other h = refl
  no_signed false (digit d) h = absurd h
  no_signed false minus h = refl
  no_signed false quote h = refl
  no_signed false comma h = refl
  no_signed false cr h = refl
  no_signed false lf h = refl
  no_signed false other h = refl

  -- no number after a minus begins with a 0
  pub no_zero : (q : Bool) → step kind source (start q true) (digit 0) ≡ none
  unfolding step leading
  no_zero true = refl
  no_zero false = refl

  pub no_quote : (n : Bool) (b : ℕ) (m : Mark) → Seen b m → (b ≡ 34 → ⊥) → step kind source (within true n 0) m ≡ none
  unfolding step more
  no_quote true b (digit d) k q = refl
  no_quote true b minus k q = refl
  no_quote true b quote k q = absurd (q k)
  no_quote true b comma k q = refl
  no_quote true b cr k q = refl
  no_quote true b lf k q = refl
  no_quote true b other k q = refl
  no_quote false b (digit d) k q = refl
  no_quote false b minus k q = refl
  no_quote false b quote k q = absurd (q k)
  no_quote false b comma k q = refl
  no_quote false b cr k q = refl
  no_quote false b lf k q = refl
  no_quote false b other k q = refl

  pub no_mark : (b : ℕ) (m : Mark) → Seen b m → (b ≡ 44 → ⊥) → (b ≡ 13 → ⊥) → step kind source closed m ≡ none
  unfolding step
  no_mark b (digit d) k c r = refl
  no_mark b minus k c r = refl
  no_mark b quote k c r = refl
  no_mark b comma k c r = absurd (c k)
  no_mark b cr k c r = absurd (r k)
  no_mark b lf k c r = refl
  no_mark b other k c r = refl

  pub no_comma : (b : ℕ) (m : Mark) → Seen b m → (b ≡ 44 → ⊥) → step kind source closed_cost m ≡ none
  unfolding step
  no_comma b (digit d) k c = refl
  no_comma b minus k c = refl
  no_comma b quote k c = refl
  no_comma b comma k c = absurd (c k)
  no_comma b cr k c = refl
  no_comma b lf k c = refl
  no_comma b other k c = refl

  pub no_feed : (b : ℕ) (m : Mark) → Seen b m → (b ≡ 10 → ⊥) → (step kind source line_end m ≡ none) × (step kind source last_line_end m ≡ none)
  unfolding step
  no_feed b (digit d) k f = (refl, refl)
  no_feed b minus k f = (refl, refl)
  no_feed b quote k f = (refl, refl)
  no_feed b comma k f = (refl, refl)
  no_feed b cr k f = (refl, refl)
  no_feed b lf k f = absurd (f k)
  no_feed b other k f = (refl, refl)

-- no file ends where a number begins, nor in a quoted number
pub start_on : (kind : Kind) (q m : Bool) → may_end kind (start q m) ≡ false
unfolding may_end
start_on kind true true = refl
start_on kind true false = refl
start_on kind false true = refl
start_on kind false false = refl

pub start_clear : (q m : Bool) (k : Mark) (at : ℕ) → place_of (start q m) k at ≡ at
start_clear true true k at = refl
start_clear true false k at = refl
start_clear false true k at = refl
start_clear false false k at = refl

pub quoted_clear : (m : Bool) (k : Mark) (at : ℕ) → place_of (within true m 0) k at ≡ at
quoted_clear true k at = refl
quoted_clear false k at = refl

pub quoted_on : (kind : Kind) (m : Bool) → may_end kind (within true m 0) ≡ false
unfolding may_end
quoted_on kind true = refl
quoted_on kind false = refl

-- a field with its number: quoted or bare, after a minus or not
module _ (kind : Kind) (q m b : Bool) (r : List ℤ) (rs : List (List ℤ)) (s : List ℕ) (at : ℕ) where
  -- where no digit comes, the digits end
  pub digits_end :
      (left v : ℕ) → NotDigit (mark (get_or s at 0)) →
      run kind at (reading (within q m left) v m b r rs) (drop at s) ≡ run kind at (reading (within q m 0) v m b r rs) (drop at s)
  unfolding absorb step records_at_end may_end
  digits_end left v h =
      elim (dec_lt at (length s)) [
        | yes k ↦ here kind _ s at _ k refl ∙ on q m (mark (get_or s at 0)) h ∙ sym (here kind _ s at _ k refl)
        | no k ↦ at_end kind _ s at (omega arith) ∙ off q m ∙ sym (at_end kind _ s at (omega arith))
      ]
    where
      on : (q m : Bool) (k : Mark) → NotDigit k →
          onward kind (reading (within q m left) v m b r rs) k s at (at + 1) ≡ onward kind (reading (within q m 0) v m b r rs) k s at (at + 1)
      on true true (digit d) h = absurd h
      on true true minus h = refl
      on true true quote h = refl
      on true true comma h = refl
      on true true cr h = refl
      on true true lf h = refl
      on true true other h = refl
      on true false (digit d) h = absurd h
      on true false minus h = refl
      on true false quote h = refl
      on true false comma h = refl
      on true false cr h = refl
      on true false lf h = refl
      on true false other h = refl
      on false true (digit d) h = absurd h
      on false true minus h = refl
      on false true quote h = refl
      on false true comma h = refl
      on false true cr h = refl
      on false true lf h = refl
      on false true other h = refl
      on false false (digit d) h = absurd h
      on false false minus h = refl
      on false false quote h = refl
      on false false comma h = refl
      on false false cr h = refl
      on false false lf h = refl
      on false false other h = refl

      off : (q m : Bool) → ended kind (reading (within q m left) v m b r rs) at ≡ ended kind (reading (within q m 0) v m b r rs) at
      off true true = refl
      off true false = refl
      off false true = refl
      off false false = refl

  module _ (d : ℕ) (h : at < length s) (e : mark (get_or s at 0) ≡ digit d) where
    -- one digit more
    pub digits_more :
        (left v : ℕ) → run kind at (reading (within q m (suc left)) v m b r rs) (drop at s)
        ≡ run kind (at + 1) (reading (within q m left) (v * 10 + d) m b r rs) (drop (at + 1) s)
    unfolding step more absorb
    digits_more left v = here kind (reading (within q m (suc left)) v m b r rs) s at (digit d) h e ∙ go q m
      where
        go : (q m : Bool) →
            onward kind (reading (within q m (suc left)) v m b r rs) (digit d) s at (at + 1)
            ≡ run kind (at + 1) (reading (within q m left) (v * 10 + d) m b r rs) (drop (at + 1) s)
        go true true = refl
        go true false = refl
        go false true = refl
        go false false = refl

  -- a number that begins with another digit than 0
  pub begins : (d : ℕ) → at < length s → mark (get_or s at 0) ≡ digit (suc d) →
      run kind at (reading (start q m) 0 m b r rs) (drop at s) ≡ run kind at (reading (within q m 10) 0 m b r rs) (drop at s)
  unfolding step leading more absorb
  begins d h e =
      here kind (reading (start q m) 0 m b r rs) s at (digit (suc d)) h e ∙ go q m
      ∙ sym (here kind (reading (within q m 10) 0 m b r rs) s at (digit (suc d)) h e)
    where
      go : (q m : Bool) →
          onward kind (reading (start q m) 0 m b r rs) (digit (suc d)) s at (at + 1) ≡ onward kind (reading (within q m 10) 0 m b r rs) (digit (suc d)) s at (at + 1)
      go true true = refl
      go true false = refl
      go false true = refl
      go false false = refl

-- a number that begins with a 0, after no minus
abbrev zero_at : Bool → State
zero_at true = zeroQuoted
zero_at false = zeroBare

module _ (kind : Kind) (q b : Bool) (r : List ℤ) (rs : List (List ℤ)) (s : List ℕ) where
  zero_on : (at : ℕ) → at < length s → mark (get_or s at 0) ≡ digit 0 →
      run kind at (reading (start q false) 0 false b r rs) (drop at s) ≡ run kind (at + 1) (reading (zero_at q) 0 false b r rs) (drop (at + 1) s)
  unfolding step leading absorb
  zero_on at h e = here kind (reading (start q false) 0 false b r rs) s at (digit 0) h e ∙ go q
    where
      go : (q : Bool) → onward kind (reading (start q false) 0 false b r rs) (digit 0) s at (at + 1) ≡ run kind (at + 1) (reading (zero_at q) 0 false b r rs) (drop (at + 1) s)
      go true = refl
      go false = refl

  -- where no digit comes, it is as any other digit
  zero_end : (at : ℕ) → NotDigit (mark (get_or s at 0)) →
      run kind at (reading (zero_at q) 0 false b r rs) (drop at s) ≡ run kind at (reading (within q false 9) 0 false b r rs) (drop at s)
  unfolding absorb step records_at_end may_end
  zero_end at h =
      elim (dec_lt at (length s)) [
        | yes k ↦
            here kind (reading (zero_at q) 0 false b r rs) s at (mark (get_or s at 0)) k refl ∙ on q (mark (get_or s at 0)) h
            ∙ sym (here kind (reading (within q false 9) 0 false b r rs) s at (mark (get_or s at 0)) k refl)
        | no k ↦
            at_end kind (reading (zero_at q) 0 false b r rs) s at (omega arith) ∙ off q
            ∙ sym (at_end kind (reading (within q false 9) 0 false b r rs) s at (omega arith))
      ]
    where
      on : (q : Bool) (k : Mark) → NotDigit k →
          onward kind (reading (zero_at q) 0 false b r rs) k s at (at + 1) ≡ onward kind (reading (within q false 9) 0 false b r rs) k s at (at + 1)
      on true (digit d) h = absurd h
      on true minus h = refl
      on true quote h = refl
      on true comma h = refl
      on true cr h = refl
      on true lf h = refl
      on true other h = refl
      on false (digit d) h = absurd h
      on false minus h = refl
      on false quote h = refl
      on false comma h = refl
      on false cr h = refl
      on false lf h = refl
      on false other h = refl

      off : (q : Bool) → ended kind (reading (zero_at q) 0 false b r rs) at ≡ ended kind (reading (within q false 9) 0 false b r rs) at
      off true = refl
      off false = refl

  -- a single 0
  pub zero_alone : (at : ℕ) → at < length s → mark (get_or s at 0) ≡ digit 0 → NotDigit (mark (get_or s (at + 1) 0)) →
      run kind at (reading (start q false) 0 false b r rs) (drop at s) ≡ run kind at (reading (within q false 10) 0 false b r rs) (drop at s)
  zero_alone at h e k = zero_on at h e ∙ zero_end (at + 1) k ∙ sym (digits_more kind q false b r rs s at 0 h e 9 0)

  -- a 0 in front of a digit is refused at the 0
  pub zero_led : (at d : ℕ) → at + 1 < length s → mark (get_or s at 0) ≡ digit 0 → mark (get_or s (at + 1) 0) ≡ digit d →
      run kind at (reading (start q false) 0 false b r rs) (drop at s) ≡ broken at
  unfolding step
  zero_led at d h e k = zero_on at (omega arith) e ∙ here kind (reading (zero_at q) 0 false b r rs) s (at + 1) (digit d) h k ∙ go q
    where
      place : at + 1 - 1 ≡ at
      place = omega arith

      go : (q : Bool) → onward kind (reading (zero_at q) 0 false b r rs) (digit d) s (at + 1) (at + 1 + 1) ≡ broken at
      go true = ap broken place
      go false = ap broken place

module _ (kind : Kind) (m b : Bool) (v : ℕ) (r : List ℤ) (rs : List (List ℤ)) (s : List ℕ) (at : ℕ) where
  -- a bare field that has all its digits is as one that is closed
  pub bare_closed : run kind at (reading (within false m 0) v m b r rs) (drop at s) ≡ run kind at (reading (closed_as m) v m b r rs) (drop at s)
  unfolding absorb step more records_at_end may_end
  bare_closed =
      elim (dec_lt at (length s)) [
        | yes k ↦
            here kind (reading (within false m 0) v m b r rs) s at (mark (get_or s at 0)) k refl ∙ on m (mark (get_or s at 0))
            ∙ sym (here kind (reading (closed_as m) v m b r rs) s at (mark (get_or s at 0)) k refl)
        | no k ↦
            at_end kind (reading (within false m 0) v m b r rs) s at (omega arith) ∙ off m
            ∙ sym (at_end kind (reading (closed_as m) v m b r rs) s at (omega arith))
      ]
    where
      on : (m : Bool) (k : Mark) → onward kind (reading (within false m 0) v m b r rs) k s at (at + 1) ≡ onward kind (reading (closed_as m) v m b r rs) k s at (at + 1)
      on true (digit d) = refl
      on true minus = refl
      on true quote = refl
      on true comma = refl
      on true cr = refl
      on true lf = refl
      on true other = refl
      on false (digit d) = refl
      on false minus = refl
      on false quote = refl
      on false comma = refl
      on false cr = refl
      on false lf = refl
      on false other = refl

      off : (m : Bool) → ended kind (reading (within false m 0) v m b r rs) at ≡ ended kind (reading (closed_as m) v m b r rs) at
      off true = refl
      off false = refl

  -- the quote that closes a field
  pub quote_closed :
      at < length s → mark (get_or s at 0) ≡ quote →
      run kind at (reading (within true m 0) v m b r rs) (drop at s) ≡ run kind (at + 1) (reading (closed_as m) v m b r rs) (drop (at + 1) s)
  unfolding absorb step
  quote_closed h e = here kind (reading (within true m 0) v m b r rs) s at quote h e ∙ go m
    where
      go : (m : Bool) → onward kind (reading (within true m 0) v m b r rs) quote s at (at + 1) ≡ run kind (at + 1) (reading (closed_as m) v m b r rs) (drop (at + 1) s)
      go true = refl
      go false = refl

-- a minus before a number, bare and quoted
pub minus_begins :
    (kind : Kind) (q b : Bool) (r : List ℤ) (rs : List (List ℤ)) (s : List ℕ) (at : ℕ) → at < length s → is_minus kind (mark (get_or s at 0)) ≡ true →
    run kind at (reading (start q false) 0 false b r rs) (drop at s) ≡ run kind (at + 1) (reading (start q true) 0 true true r rs) (drop (at + 1) s)
unfolding absorb step in_tariff
minus_begins kind q b r rs s at h e = here kind (reading (start q false) 0 false b r rs) s at (mark (get_or s at 0)) h refl ∙ go kind q (mark (get_or s at 0)) e
  where
    go : (kind : Kind) (q : Bool) (m : Mark) → is_minus kind m ≡ true →
        onward kind (reading (start q false) 0 false b r rs) m s at (at + 1) ≡ run kind (at + 1) (reading (start q true) 0 true true r rs) (drop (at + 1) s)
    go Production q m e = absurd (true≢false (sym e))
    go Tariff true minus e = refl
    go Tariff false minus e = refl
    go Tariff q (digit d) e = absurd (true≢false (sym e))
    go Tariff q quote e = absurd (true≢false (sym e))
    go Tariff q comma e = absurd (true≢false (sym e))
    go Tariff q cr e = absurd (true≢false (sym e))
    go Tariff q lf e = absurd (true≢false (sym e))
    go Tariff q other e = absurd (true≢false (sym e))
