-- What the automaton accepts is a file of the form, with the records that it has: by the fields that the reader takes, one after the other. With
-- `Accepted.accepted` the automaton accepts exactly these files. Assumes nothing.
use mathlib.Core.Path.{◌≡◌, refl, ap, sym, ◌∙◌, subst}
use mathlib.Core.Bool.{Bool, true, false, ◌||◌, true≢false}
use mathlib.Core.List.{List, [], ◌∷◌, ◌++◌, map, append_assoc}
use Prim.Native.Nat.{ℕ, zero, suc, ◌-◌, ◌≤◌, ◌<◌}
use native.Mathlib.Omega.{arith}
use lib.IntN.{ℤ, pos}
use lib.ListN.{length, drop}
use Rattle.csv_form.specs.declared.Kind.{Kind}
use Rattle.csv_form.specs.declared.Kind.TheVariants.{Tariff, Production}
use Rattle.std.proofs.Common.{Ok, Err}
use Rattle.csv_form.specs.declared.after.After.TheVariants as afters
use Rattle.csv_form.specs.Form.{field}
use Rattle.csv_form.specs.Records.{reading, run, row_with, rows_with, is_first, Form, whole, broken, form_of}
use Rattle.csv_form.specs.Records as machine
use Rattle.csv_form.specs.inner.Reader.{FieldAnswer, AfterAnswer, field_at, after_at, on_after, FieldRead, AfterRead, at_field, Known}
use Rattle.csv_form.proofs.FieldAnswers.{means_field}
use Rattle.csv_form.proofs.AfterAnswers.{means_after}
use Rattle.csv_grammar.specs.Grammar.{Each, Field, IsPlain, signed, number_in, value_after, field_text, record_text, Row, row_text}
use Rattle.csv_grammar.specs.Grammar.{numbers_in, SourceRow, PlainRow, IsSource, line_end, lines_before, IsTariff, IsProduction, HasForm}
use Rattle.csv_grammar.proofs.Accepted.{Fields, RowOf, same_signed, accepted}
use Rattle.csv_grammar.proofs.FieldTexts.{FieldText, field_text_lem, AfterText, after_text}

-- ---- the rest of a file from a field on
abbrev last_text : Kind → Bool → List ℕ
last_text Tariff ended = 44 ∷ line_end ended
last_text Production ended = line_end ended

abbrev last_numbers : Kind → List ℤ → List ℤ
last_numbers Tariff ns = ns ++ (pos 0 ∷ [])
last_numbers Production ns = ns

-- the demands are not the first record, and have no minus
abbrev MayBeLast : Kind → Bool → List (List ℤ) → Type 0
MayBeLast Tariff b rows = (b || is_first rows) ≡ false
MayBeLast Production b rows = Unit {0}

abbrev row_of : Field → List Field → Row
row_of f fs = record { first = f; others = fs }

data Rest (kind : Kind) (b : Bool) (row : List ℤ) (rows : List (List ℤ)) (l : List ℕ) (records : List (List ℤ)) : Type 0 where
  -- this record is the last
  last_now :
      (f : Field) (fs : List Field) (ended : Bool) → Each IsPlain (f ∷ fs) → MayBeLast kind b rows → l ≡ record_text f fs ++ last_text kind ended →
      records ≡ rows ++ (last_numbers kind (row ++ map number_in (f ∷ fs)) ∷ []) → Rest kind b row rows l records
  -- further records follow
  more_now :
      (f : Field) (fs : List Field) (before : List Row) (last : Row) (ended : Bool) → Fields kind f fs → Each (RowOf kind) before → PlainRow last →
      l ≡ record_text f fs ++ (13 ∷ 10 ∷ lines_before before (row_text last ++ last_text kind ended)) →
      records ≡ rows ++ ((row ++ map number_in (f ∷ fs)) ∷ (map numbers_in before ++ (last_numbers kind (numbers_in last) ∷ []))) → Rest kind b row rows l records

-- no minus where a record may be the last
plain_before : (kind : Kind) (m b : Bool) (rows : List (List ℤ)) → (m ≡ true → kind ≡ Tariff) → MayBeLast kind (m || b) rows → (m ≡ false) × MayBeLast kind b rows
plain_before Tariff true b rows t h = absurd (true≢false h)
plain_before Tariff false b rows t h = (refl, h)
plain_before Production true b rows t h = absurd (let e = t refl in let z : ◌≡◌ {A = ℕ} 0 1 = cc in omega arith)
plain_before Production false b rows t h = (refl, tt)

module _ (kind : Kind) (s : List ℕ) (records : List (List ℤ)) where
  module _ (b : Bool) (row : List ℤ) (rows : List (List ℤ)) (at v next : ℕ) (m : Bool) (t : FieldText kind s at v m next) where
    -- the number that the automaton has is the field's
    same_number : machine.signed m v ≡ number_in t.it
    same_number = ap (λ (x : ℕ). machine.signed m x) t.is ∙ same_signed m _ ∙ ap (λ (x : Bool). signed x (value_after 0 t.it.digits)) (sym t.negative)

    plain_field : m ≡ false → IsPlain t.it
    plain_field e = record { is = t.is_field; plain = t.negative ∙ e }

    -- a further field of the record
    with_field : (start : ℕ) → drop next s ≡ 44 ∷ drop start s → Rest kind (m || b) (row_with (machine.signed m v) row) rows (drop start s) records → Rest kind b row rows (drop at s) records
    unfolding record_text
    with_field start e (last_now g gs ended plain may text numbers) =
        let w = plain_before kind m b rows t.tariff may in
        last_now t.it (g ∷ gs) ended (plain_field w.0, plain) w.1
        (t.text ∙ ap (λ (l : List ℕ). field_text t.it ++ l) (e ∙ ap (λ (l : List ℕ). 44 ∷ l) text) ∙ sym (append_assoc (field_text t.it) (44 ∷ record_text g gs) (last_text kind ended)))
        (numbers ∙
        ap (λ (x : List ℤ). rows ++ (last_numbers kind x ∷ [])) (append_assoc row (machine.signed m v ∷ []) (map number_in (g ∷ gs)) ∙ ap (λ (z : ℤ). row ++ (z ∷ map number_in (g ∷ gs))) same_number))
    with_field start e (more_now g gs before last ended fields rows_ok plain text numbers) =
        let tail : List ℕ = 13 ∷ 10 ∷ lines_before before (row_text last ++ last_text kind ended) in
        more_now t.it (g ∷ gs) before last ended (t.is_field, λ z. t.tariff (sym t.negative ∙ z), fields) rows_ok plain
        (t.text ∙ ap (λ (l : List ℕ). field_text t.it ++ l) (e ∙ ap (λ (l : List ℕ). 44 ∷ l) text) ∙ sym (append_assoc (field_text t.it) (44 ∷ record_text g gs) tail))
        (numbers
        ∙ ap (λ (x : List ℤ). rows ++ (x ∷ (map numbers_in before ++ (last_numbers kind (numbers_in last) ∷ []))))
        (append_assoc row (machine.signed m v ∷ []) (map number_in (g ∷ gs)) ∙ ap (λ (z : ℤ). row ++ (z ∷ map number_in (g ∷ gs))) same_number))

    -- a further record
    with_record :
        (start : ℕ) → m ≡ false → drop next s ≡ 13 ∷ 10 ∷ drop start s → Rest kind false [] (rows_with (machine.signed m v) row rows) (drop start s) records → Rest kind b row rows (drop at s) records
    unfolding record_text lines_before
    with_record start p e (last_now g gs ended plain may text numbers) =
        more_now t.it [] [] (row_of g gs) ended (plain_field p) tt plain
        (t.text ∙ ap (λ (l : List ℕ). field_text t.it ++ l) (e ∙ ap (λ (l : List ℕ). 13 ∷ 10 ∷ l) text))
        (numbers ∙ append_assoc rows (row_with (machine.signed m v) row ∷ []) (last_numbers kind (map number_in (g ∷ gs)) ∷ [])
        ∙ ap (λ (z : ℤ). rows ++ ((row ++ (z ∷ [])) ∷ (last_numbers kind (map number_in (g ∷ gs)) ∷ []))) same_number)
    with_record start p e (more_now g gs before last ended fields rows_ok plain text numbers) =
        let tail = map number_in (g ∷ gs) ∷ (map numbers_in before ++ (last_numbers kind (numbers_in last) ∷ [])) in
        more_now t.it [] (row_of g gs ∷ before) last ended (plain_field p) (fields, rows_ok) plain
        (t.text ∙ ap (λ (l : List ℕ). field_text t.it ++ l) (e ∙ ap (λ (l : List ℕ). 13 ∷ 10 ∷ l) text))
        (numbers ∙ append_assoc rows (row_with (machine.signed m v) row ∷ []) tail ∙ ap (λ (z : ℤ). rows ++ ((row ++ (z ∷ [])) ∷ tail)) same_number)

    -- what stands after the field
    after : (a : AfterAnswer) → after_at kind m ((m || b) || is_first rows) s next ≡ a → on_after kind (machine.signed m v) (m || b) row rows s a ≡ whole records →
        AfterText kind m ((m || b) || is_first rows) s next a →
        ((start : ℕ) → a ≡ Ok (afters.Field start) → Rest kind (m || b) (row_with (machine.signed m v) row) rows (drop start s) records) →
        ((start : ℕ) → a ≡ Ok (afters.Record start) → Rest kind false [] (rows_with (machine.signed m v) row rows) (drop start s) records) →
        Rest kind b row rows (drop at s) records
    unfolding record_text
    after (Ok (afters.Field start)) k w text on_field_lem on_record = with_field start text (on_field_lem start refl)
    after (Ok (afters.Record start)) k w text on_field_lem on_record = with_record start text.0 text.1 (on_record start refl)
    after (Ok afters.End) k w text on_field_lem on_record = ends kind text.1 t.text same_number (plain_field text.0) w
      where
        ends : (k : Kind) → k ≡ Production → drop at s ≡ field_text t.it ++ drop next s → machine.signed m v ≡ number_in t.it → IsPlain t.it →
            whole (rows_with (machine.signed m v) row rows) ≡ whole records → Rest k b row rows (drop at s) records
        ends Tariff p x y z w = absurd (let c : ◌≡◌ {A = ℕ} 0 1 = cc in omega arith)
        ends Production p x y z w =
            let all : rows_with (machine.signed m v) row rows ≡ records = cc in
            last_now t.it [] text.2.ended (z, tt) tt (x ∙ ap (λ (l : List ℕ). field_text t.it ++ l) text.2.text)
            (sym all ∙ ap (λ (n : ℤ). rows ++ ((row ++ (n ∷ [])) ∷ [])) y)
    after (Ok afters.Empty) k w text on_field_lem on_record = ends kind text.1 t.text same_number (plain_field text.0) w
      where
        may : (m : Bool) → m ≡ false → ((m || b) || is_first rows) ≡ false → (b || is_first rows) ≡ false
        may true p e = absurd (true≢false p)
        may false p e = e

        ends : (k : Kind) → k ≡ Tariff → drop at s ≡ field_text t.it ++ drop next s → machine.signed m v ≡ number_in t.it → IsPlain t.it →
            whole (rows_with (pos 0) (row_with (machine.signed m v) row) rows) ≡ whole records → Rest k b row rows (drop at s) records
        ends Production p x y z w = absurd (let c : ◌≡◌ {A = ℕ} 0 1 = cc in omega arith)
        ends Tariff p x y z w =
            let all : rows_with (pos 0) (row_with (machine.signed m v) row) rows ≡ records = cc in
            last_now t.it [] text.3.ended (z, tt) (may m text.0 text.2) (x ∙ ap (λ (l : List ℕ). field_text t.it ++ l) text.3.text)
            (sym all ∙ ap (λ (n : ℤ). rows ++ (((row ++ (n ∷ [])) ++ (pos 0 ∷ [])) ∷ [])) y)
    after (Err e) k w text on_field_lem on_record = absurd (let z : ◌≡◌ {A = ℕ} 0 1 = cc in omega arith)

  rest : (fuel at : ℕ) → at ≤ length s → length s - at < fuel → (b : Bool) (row : List ℤ) (rows : List (List ℤ)) →
      run kind at (reading field 0 false b row rows) (drop at s) ≡ whole records → Rest kind b row rows (drop at s) records
  rest zero at h less b row rows w = absurd (omega arith)
  rest (suc fuel) at h less b row rows w = on (λ at' h' l' b' row' rows' w'. rest fuel at' h' l' b' row' rows' w') (field_at kind s at) refl
    where
      on : ((at' : ℕ) → at' ≤ length s → length s - at' < fuel → (b' : Bool) (row' : List ℤ) (rows' : List (List ℤ)) →
          run kind at' (reading field 0 false b' row' rows') (drop at' s) ≡ whole records → Rest kind b' row' rows' (drop at' s) records) →
          (a : FieldAnswer) → field_at kind s at ≡ a → Rest kind b row rows (drop at s) records
      on again (Err x) e =
          absurd (let k = sym ((subst (λ (x : FieldAnswer). FieldRead kind field s at x) e (means_field s kind at h)).meaning b row rows) ∙ w in let z : ◌≡◌ {A = ℕ} 0 1 = cc in omega arith)
      on again (Ok f) e =
          let v = f.value in
          let m = f.minus in
          let next = f.next in
          let got = subst (λ (x : FieldAnswer). FieldRead kind field s at x) e (means_field s kind at h) in
          let source = (m || b) || is_first rows in
          let then = means_after s kind m source next in
          let said = sym (then.meaning m v (m || b) row rows (refl, refl)) ∙ sym (got.meaning b row rows) ∙ w in
          after b row rows at v next m (field_text_lem kind s at v m next e) (after_at kind m source s next) refl said (after_text kind m source s next)
          (λ start k.
          let r = subst (λ (x : AfterAnswer). AfterRead at_field (Known m source) kind s next x) k then in
          again start r.ends.1 (omega (arith, got.ends.0, r.ends.0, r.ends.1)) (m || b) (row_with (machine.signed m v) row) rows
          (sym (r.meaning m v (m || b) row rows (refl, refl)) ∙ sym (got.meaning b row rows) ∙ w))
          (λ start k.
          let r = subst (λ (x : AfterAnswer). AfterRead at_field (Known m source) kind s next x) k then in
          again start r.ends.1 (omega (arith, got.ends.0, r.ends.0, r.ends.1)) false [] (rows_with (machine.signed m v) row rows)
          (sym (r.meaning m v (m || b) row rows (refl, refl)) ∙ sym (got.meaning b row rows) ∙ w))

-- ---- the two files
production_fields : (f : Field) (fs : List Field) → Fields Production f fs → Each IsPlain (f ∷ fs)
production_fields f [] i = (i, tt)
production_fields f (g ∷ fs) i = (record { is = i.0; plain = no f.negative i.1 }, production_fields g fs i.2)
  where
    no : (m : Bool) → (m ≡ true → Production ≡ Tariff) → m ≡ false
    no true h = absurd (let e = h refl in let z : ◌≡◌ {A = ℕ} 0 1 = cc in omega arith)
    no false h = refl

production_rows : (rs : List Row) → Each (RowOf Production) rs → Each PlainRow rs
production_rows [] i = tt
production_rows (r ∷ rs) i = (production_fields r.first r.others i.0, production_rows rs i.1)

tariff_fields : (f : Field) (fs : List Field) → Fields Tariff f fs → IsSource f fs
tariff_fields f [] i = i
tariff_fields f (g ∷ fs) i = (i.0, tariff_fields g fs i.2)

tariff_rows : (rs : List Row) → Each (RowOf Tariff) rs → Each SourceRow rs
tariff_rows [] i = tt
tariff_rows (r ∷ rs) i = (tariff_fields r.first r.others i.0, tariff_rows rs i.1)

tariff_form : (s : List ℕ) (records : List (List ℤ)) → Rest Tariff false [] [] s records → IsTariff s records
unfolding lines_before
tariff_form s records (last_now f fs ended plain may text numbers) = absurd (true≢false may)
tariff_form s records (more_now f fs before last ended fields rows_ok plain text numbers) = record {
  first = row_of f fs;
  others = before;
  demands = last;
  ended = ended;
  sources = (tariff_fields f fs fields, tariff_rows before rows_ok);
  plain = plain;
  text = text;
  numbers = numbers;
}

production_form : (s : List ℕ) (records : List (List ℤ)) → Rest Production false [] [] s records → IsProduction s records
unfolding lines_before
production_form s records (last_now f fs ended plain may text numbers) = record {
  before = [];
  last = row_of f fs;
  ended = ended;
  plain = tt;
  plain_last = plain;
  text = text;
  numbers = numbers;
}
production_form s records (more_now f fs before last ended fields rows_ok plain text numbers) = record {
  before = row_of f fs ∷ before;
  last = last;
  ended = ended;
  plain = (production_fields f fs fields, production_rows before rows_ok);
  plain_last = plain;
  text = text;
  numbers = numbers;
}

-- what is accepted has the form
pub has_form : (kind : Kind) (s : List ℕ) (records : List (List ℤ)) → form_of kind s ≡ whole records → HasForm kind s records
unfolding form_of
has_form Tariff s records w = tariff_form s records (rest Tariff s records (suc (length s)) 0 (omega arith) (omega arith) false [] [] w)
has_form Production s records w = production_form s records (rest Production s records (suc (length s)) 0 (omega arith) (omega arith) false [] [] w)

-- the automaton accepts exactly the files of the form, with their records
pub exactly : (kind : Kind) (s : List ℕ) (records : List (List ℤ)) → (form_of kind s ≡ whole records → HasForm kind s records) × (HasForm kind s records → form_of kind s ≡ whole records)
exactly kind s records = (has_form kind s records, accepted kind s records)
