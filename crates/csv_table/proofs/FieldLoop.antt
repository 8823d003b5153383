-- The loop over the fields of a file. Assumes nothing.
use mathlib.Core.Path.{◌≡◌, refl, ap, sym, ◌∙◌, subst}
use mathlib.Core.Bool.{Bool, false, ◌||◌}
use mathlib.Core.List.{List, [], ◌∷◌, ◌++◌, append_assoc, append-nil}
use Prim.Native.Nat.{ℕ, ◌+◌, ◌≤◌, ◌<◌, ◌^◌}
use native.Mathlib.Omega.{arith}
use borrow.Author.Tests.{lt-ltb, le-ltb}
use lib.IntN.{ℤ, pos}
use lib.ListN.{length, set, drop, length-append}
use lib.Seq.{sets, length-sets}
use Rattle.csv_form.specs.declared.Kind.{Kind}
use Rattle.std.proofs.Common.{Ok}
use Rattle.csv_form.specs.declared.after.After.TheVariants as after-answers
use Rattle.refusal.specs.declared.Cause.TheVariants as causes
use Rattle.csv_table.specs.declared.table.Tally.{Tally}
use Rattle.csv_form.specs.Form.{field}
use Rattle.csv_form.specs.Records.{reading, run, signed, row_with, rows_with, whole, broken, form_of}
use Rattle.csv_table.specs.Files.{refused, table_of, judge, judged, in_order}
use Rattle.csv_form.specs.inner.Reader.{FieldAnswer, AfterAnswer, read, misfit, closed_as, field_at, after_at, FieldRead, AfterRead, at_field, Known}
use Rattle.csv_table.specs.inner.Tallies.{start_tally, field_tally, record_tally, source_tally, Countable, Scanned}
use Rattle.csv_table.proofs.FieldCounts.{Tallied, tally_start, tally_field, tally_record, tally_source, in_order_snoc, judged_whole}
use Rattle.csv_form.proofs.FieldAnswers.{means_field}
use Rattle.csv_form.proofs.AfterAnswers.{means_after}
use Rattle.csv_print.proofs.Stores.{sets_snoc}

-- the counts do not outgrow the offset
pub record Few (t : Tally) (at : ℕ) : Type 0 where
  pub values : t.values ≤ at
  pub parts : t.records + t.fields ≤ t.values

-- there is room to count on, in a file of the size that is read
pub countable : (t : Tally) (at : ℕ) → Few t at → at ≤ 65537 → Countable t
countable t at few h = record { records = omega (arith, few); fields = omega (arith, few); values = omega (arith, few) }

pub few_field : (t t' : Tally) (m : Bool) (at : ℕ) → t' ≡ field_tally m t → Few t at → Few t' (at + 1)
few_field t t' m at e few = subst (λ (a : Tally). Few a (at + 1)) (sym e) (record { values = omega (arith, few); parts = omega (arith, few) })

-- where a field begins
pub record Along (kind : Kind) (s : List ℕ) (cells₀ cells : List ℤ) (t : Tally) (at : ℕ) : Type 0 where
  pub rebate : Bool
  pub row : List ℤ
  pub rows : List (List ℤ)
  pub so_far : form_of kind s ≡ run kind at (reading field 0 false rebate row rows) (drop at s)
  pub tally : Tallied kind rebate rows row t
  pub stored : cells ≡ sets cells₀ 0 (in_order rows ++ row)
  pub upto : at ≤ length s
  pub few : Few t at

-- where a field of the value v, with a minus or not, has ended
pub record Valued (kind : Kind) (s : List ℕ) (cells₀ cells : List ℤ) (t : Tally) (m : Bool) (v next : ℕ) : Type 0 where
  pub rebate : Bool
  pub row : List ℤ
  pub rows : List (List ℤ)
  pub so_far : form_of kind s ≡ run kind next (reading (closed_as m) v m rebate row rows) (drop next s)
  pub tally : Tallied kind rebate rows (row_with (signed m v) row) t
  pub stored : cells ≡ sets cells₀ 0 (in_order rows ++ row_with (signed m v) row)
  pub upto : next ≤ length s
  pub few : Few t next

pub along_start : (kind : Kind) (s : List ℕ) (cells : List ℤ) → Along kind s cells cells (start_tally kind) 0
unfolding form_of in_order
along_start kind s cells = record {
  rebate = false;
  row = [];
  rows = [];
  so_far = refl;
  tally = tally_start kind;
  stored = refl;
  upto = omega arith;
  few = record { values = omega arith; parts = omega arith };
}

pub along_length : {kind : Kind} {s : List ℕ} {cells₀ cells : List ℤ} {t : Tally} {at : ℕ} → Along kind s cells₀ cells t at → length cells ≡ length cells₀
along_length {cells₀ = cells₀} along = ap length along.stored ∙ length-sets cells₀ 0 (in_order along.rows ++ along.row)

pub valued_length : {kind : Kind} {s : List ℕ} {cells₀ cells : List ℤ} {t : Tally} {m : Bool} {v next : ℕ} → Valued kind s cells₀ cells t m v next → length cells ≡ length cells₀
valued_length {cells₀ = cells₀} {m = m} {v = v} valued = ap length valued.stored ∙ length-sets cells₀ 0 (in_order valued.rows ++ row_with (signed m v) valued.row)

-- a file of the wrong form
broken_table :
    (kind : Kind) (s : List ℕ) (cells cells' : List ℤ) (place : ℕ) → length s ≤ 65536 → form_of kind s ≡ broken place → Scanned kind s cells cells' (refused causes.Form place)
unfolding table_of judge
broken_table kind s cells cells' place short e = record {
  answered = rw (le-ltb 65536 (length s) short, e) refl;
  some = λ records fields w. absurd (let z : ◌≡◌ {A = ℕ} 0 1 = cc in omega arith);
  stored = λ rs _ w. absurd (let z : ◌≡◌ {A = ℕ} 0 1 = cc in omega arith);
}

-- a file of the right form
whole_table :
    (kind : Kind) (s : List ℕ) (cells cells' : List ℤ) (rs : List (List ℤ)) (t : Tally) → length s ≤ 65536 → form_of kind s ≡ whole rs →
    0 < length rs → Tallied kind false rs [] t → cells' ≡ sets cells 0 (in_order rs) → Scanned kind s cells cells' (judged t.odd t.records t.width)
unfolding table_of judge
whole_table kind s cells cells' rs t short e h k c = record {
  answered = rw (le-ltb 65536 (length s) short, e, k.odd, k.records, k.width) refl;
  some = λ records fields w.
      let p = judged_whole t.odd t.records t.width records fields w in
      (omega (arith, p, k.records), omega (arith, p, k.width, k.some h));
  stored = λ rs' _ w. c ∙ ap (λ (l : List (List ℤ)). sets cells 0 (in_order l)) (let z : rs ≡ rs' = cc in z);
}

pub long_table : (kind : Kind) (s : List ℕ) (cells : List ℤ) → 65536 < length s → Scanned kind s cells cells (refused causes.File 0)
unfolding table_of
long_table kind s cells h = record {
  answered = rw (lt-ltb 65536 (length s) h) refl;
  some = λ records fields w. absurd (let z : ◌≡◌ {A = ℕ} 0 1 = cc in omega arith);
  stored = λ rs short w. absurd (omega arith);
}

module _ (kind : Kind) (s : List ℕ) (cells₀ : List ℤ) where
  module _ (cells : List ℤ) (t : Tally) (at : ℕ) (along : Along kind s cells₀ cells t at) (f : FieldAnswer) (answered : f ≡ field_at kind s at) where
    same : (a : FieldAnswer) → f ≡ a → FieldRead kind field s at a
    same a e = subst (λ (x : FieldAnswer). FieldRead kind field s at x) (sym answered ∙ e) (means_field s kind at along.upto)

    pub field_refused : (place : ℕ) (cells' : List ℤ) → length s ≤ 65536 → f ≡ misfit place → Scanned kind s cells₀ cells' (refused causes.Form place)
    field_refused place cells' short e =
        (broken_table kind s cells₀ cells' place short (along.so_far ∙ (same (misfit place) e).meaning along.rebate along.row along.rows))

    pub field_ahead : (v : ℕ) (m : Bool) (next : ℕ) → f ≡ read v m next → at < next
    field_ahead v m next e = (same (read v m next) e).ends.0

    pub field_small : (v : ℕ) (m : Bool) (next : ℕ) → f ≡ read v m next → v < 10 ^ 10
    field_small v m next e = (same (read v m next) e).ends.2

    pub field_valued :
        (v : ℕ) (m : Bool) (next : ℕ) (t' : Tally) (cells' : List ℤ) (y : ℤ) → f ≡ read v m next → t' ≡ field_tally m t →
        cells' ≡ set cells t.values y → y ≡ signed m v → Valued kind s cells₀ cells' t' m v next
    field_valued v m next t' cells' y e et ec ey =
        let known = same (read v m next) e in
        let z = signed m v in
        let count : t.values ≡ 0 + length (in_order along.rows ++ along.row) = omega (arith, along.tally.values, length-append (in_order along.rows) along.row) in
        record {
          rebate = m || along.rebate;
          row = along.row;
          rows = along.rows;
          so_far = along.so_far ∙ known.meaning along.rebate along.row along.rows;
          tally =
              subst (λ (a : Tally). Tallied kind (m || along.rebate) along.rows (row_with z along.row) a) (sym et)
              (tally_field kind along.rebate along.rows along.row t m z along.tally);
          stored =
              ec ∙ rw (ey, along.stored, count) (sym (sets_snoc cells₀ 0 (in_order along.rows ++ along.row) z))
              ∙ ap (λ (l : List ℤ). sets cells₀ 0 l) (append_assoc (in_order along.rows) along.row (z ∷ []));
          upto = known.ends.1;
          few = subst (λ (a : Tally). Few a next) (sym et)
              (record { values = omega (arith, along.few, known.ends.0); parts = omega (arith, along.few) });
        }

  module _ (cells : List ℤ) (t : Tally) (m : Bool) (v next : ℕ) (valued : Valued kind s cells₀ cells t m v next) (source : Bool) (told : source ≡ source_tally t) (a : AfterAnswer)
      (answered : a ≡ after_at kind m source s next) where
    onward' : (b : AfterAnswer) → a ≡ b → AfterRead at_field (Known m source) kind s next b
    onward' b e = subst (λ (x : AfterAnswer). AfterRead at_field (Known m source) kind s next x) (sym answered ∙ e) (means_after s kind m source next)

    -- what is known of this field and this record
    held : Known m source m valued.rebate valued.rows
    held = (refl, tally_source valued.tally ∙ sym told)

    pub field_next : (start : ℕ) → a ≡ Ok (after-answers.Field start) → (next ≤ start) × (start ≤ length s)
    field_next start e = (onward' (Ok (after-answers.Field start)) e).ends

    pub record-next : (start : ℕ) → a ≡ Ok (after-answers.Record start) → (next ≤ start) × (start ≤ length s)
    record-next start e = (onward' (Ok (after-answers.Record start)) e).ends

    -- a record has at least this field
    row_some : 0 < length (row_with (signed m v) valued.row)
    row_some = omega (arith, length-append valued.row (signed m v ∷ []))

    pub on_field_lem : (start : ℕ) → a ≡ Ok (after-answers.Field start) → Along kind s cells₀ cells t start
    on_field_lem start e =
        let known = onward' (Ok (after-answers.Field start)) e in
        record {
          rebate = valued.rebate;
          row = row_with (signed m v) valued.row;
          rows = valued.rows;
          so_far = valued.so_far ∙ known.meaning m v valued.rebate valued.row valued.rows held;
          tally = valued.tally;
          stored = valued.stored;
          upto = known.ends.1;
          few = record { values = omega (arith, valued.few, known.ends.0); parts = valued.few.parts };
        }

    -- all values of the records with this one
    all_values : in_order valued.rows ++ row_with (signed m v) valued.row ≡ in_order (rows_with (signed m v) valued.row valued.rows) ++ []
    all_values = sym (append-nil (in_order (rows_with (signed m v) valued.row valued.rows)) ∙ in_order_snoc valued.rows (row_with (signed m v) valued.row))

    -- the counts with this record
    counted : (t' : Tally) → t' ≡ record_tally t → Tallied kind false (rows_with (signed m v) valued.row valued.rows) [] t'
    counted t' et =
        subst (λ (x : Tally). Tallied kind false (rows_with (signed m v) valued.row valued.rows) [] x) (sym et)
        (tally_record kind valued.rebate valued.rows (row_with (signed m v) valued.row) t row_some valued.tally)

    pub on_record : (start : ℕ) (t' : Tally) → a ≡ Ok (after-answers.Record start) → t' ≡ record_tally t → Along kind s cells₀ cells t' start
    on_record start t' e et =
        let known = onward' (Ok (after-answers.Record start)) e in
        record {
          rebate = false;
          row = [];
          rows = rows_with (signed m v) valued.row valued.rows;
          so_far = valued.so_far ∙ known.meaning m v valued.rebate valued.row valued.rows held;
          tally = counted t' et;
          stored = valued.stored ∙ ap (λ (l : List ℤ). sets cells₀ 0 l) all_values;
          upto = known.ends.1;
          few = subst (λ (x : Tally). Few x start) (sym et)
              (record { values = omega (arith, valued.few, known.ends.0); parts = omega (arith, valued.few, valued.tally.fields, row_some) });
        }

    pub on_end : (t' : Tally) → length s ≤ 65536 → a ≡ Ok after-answers.End → t' ≡ record_tally t → Scanned kind s cells₀ cells (judged t'.odd t'.records t'.width)
    on_end t' short e et =
        let known = onward' (Ok after-answers.End) e in
        whole_table kind s cells₀ cells (rows_with (signed m v) valued.row valued.rows) t' short
        (valued.so_far ∙ known.meaning m v valued.rebate valued.row valued.rows held)
        (omega (arith, length-append valued.rows (row_with (signed m v) valued.row ∷ [])))
        (counted t' et)
        (valued.stored ∙ ap (λ (l : List ℤ). sets cells₀ 0 l) (sym (in_order_snoc valued.rows (row_with (signed m v) valued.row))))

    pub on_empty :
        (t' : Tally) (cells' : List ℤ) → length s ≤ 65536 → a ≡ Ok after-answers.Empty → t' ≡ record_tally (field_tally false t) → cells' ≡ set cells t.values (pos 0) →
        Scanned kind s cells₀ cells' (judged t'.odd t'.records t'.width)
    on_empty t' cells' short e et ec =
        let known = onward' (Ok after-answers.Empty) e in
        let whole_row = row_with (signed m v) valued.row in
        let count : t.values ≡ 0 + length (in_order valued.rows ++ whole_row) = omega (arith, valued.tally.values, length-append (in_order valued.rows) whole_row) in
        whole_table kind s cells₀ cells' (rows_with (pos 0) whole_row valued.rows) t' short
        (valued.so_far ∙ known.meaning m v valued.rebate valued.row valued.rows held)
        (omega (arith, length-append valued.rows (row_with (pos 0) whole_row ∷ [])))
        (subst (λ (x : Tally). Tallied kind false (rows_with (pos 0) whole_row valued.rows) [] x) (sym et)
        (tally_record kind (false || valued.rebate) valued.rows (row_with (pos 0) whole_row) (field_tally false t) (omega (arith, length-append whole_row (pos 0 ∷ [])))
        (tally_field kind valued.rebate valued.rows whole_row t false (pos 0) valued.tally)))
        (ec ∙ rw (valued.stored, count) (sym (sets_snoc cells₀ 0 (in_order valued.rows ++ whole_row) (pos 0)))
        ∙ ap (λ (l : List ℤ). sets cells₀ 0 l) (append_assoc (in_order valued.rows) whole_row (pos 0 ∷ []) ∙ sym (in_order_snoc valued.rows (row_with (pos 0) whole_row))))

    pub on_refused : (place : ℕ) → length s ≤ 65536 → a ≡ misfit place → Scanned kind s cells₀ cells (refused causes.Form place)
    on_refused place short e =
        let known = onward' (misfit place) e in
        broken_table kind s cells₀ cells place short
        (valued.so_far ∙ known.meaning m v valued.rebate valued.row valued.rows held)
