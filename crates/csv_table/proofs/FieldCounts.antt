-- The counts on the way through a file. Assumes nothing.
use mathlib.Core.Path.{◌≡◌, refl, ap, sym}
use mathlib.Core.Bool.{Bool, true, false, ◌||◌}
use mathlib.Core.List.{List, [], ◌∷◌, ◌++◌, append_assoc, append-nil}
use Prim.Native.Nat.{ℕ, zero, suc, ◌+◌, ◌<◌}
use native.Mathlib.Omega.{arith}
use native.Mathlib.Nat.{add-zero}
use borrow.Author.Tests.{ne_eqb}
use lib.Dec.{eqb, eqb-suc-zero}
use lib.IntN.{ℤ}
use lib.ListN.{length, length-append}
use Rattle.std.proofs.Common.{Ok, Err}
use Rattle.csv_form.specs.declared.Kind.{Kind}
use Rattle.csv_form.specs.declared.Kind.TheVariants.{Tariff, Production}
use Rattle.refusal.specs.declared.Cause.TheVariants as causes
use Rattle.csv_table.specs.declared.table.Tally.{Tally}
use Rattle.csv_form.specs.Records.{row_with, is_first}
use Rattle.csv_table.specs.Files.{Table, shaped, refused, pick, judged, wanted, odd_from, in_order}
use Rattle.csv_table.specs.inner.Tallies.{start_tally, field_tally, width_or, odd_or, record_tally, source_tally}

wanted_snoc :
    (kind : Kind) (rs : List (List ℤ)) (r : List ℤ) → (0 < length rs → 0 < wanted kind rs) →
    wanted kind (rs ++ (r ∷ [])) ≡ width_or (wanted kind rs) (length r)
unfolding wanted
wanted_snoc Production rs r h = refl
wanted_snoc Tariff [] r h = refl
wanted_snoc Tariff (x ∷ rs) r h = let k = h (omega arith) in rw (ne_eqb (length x) 0 (λ e. omega arith))

-- a record more, where the first has the number i + 1
odd_snoc :
    (w i : ℕ) (rs : List (List ℤ)) (r : List ℤ) →
    odd_from w (suc i) (rs ++ (r ∷ [])) ≡ odd_or (odd_from w (suc i) rs) w (length r) (suc i + length rs)
unfolding odd_from
odd_snoc w i [] r = rw (add-zero (suc i)) refl
odd_snoc w i (x ∷ rs) r = go (eqb (length x) w) (odd_snoc w (suc i) rs r)
  where
    go : (b : Bool) →
        odd_from w (suc (suc i)) (rs ++ (r ∷ [])) ≡ odd_or (odd_from w (suc (suc i)) rs) w (length r) (suc (suc i) + length rs) →
        pick b (odd_from w (suc (suc i)) (rs ++ (r ∷ []))) (suc i) ≡ odd_or (pick b (odd_from w (suc (suc i)) rs) (suc i)) w (length r) (suc i + suc (length rs))
    go true ih = let e : suc i + suc (length rs) ≡ suc (suc i) + length rs = omega arith in rw e ih
    go false ih = rw (eqb-suc-zero i) refl

width_known : (w n : ℕ) → 0 < w → width_or w n ≡ w
width_known w n h = rw (ne_eqb w 0 (λ e. omega arith))

width_some : (w n : ℕ) → 0 < n → 0 < width_or w n
width_some zero n h = h
width_some (suc w) n h = rw (eqb-suc-zero w) (omega arith)

-- the width that the first record sets leaves the records before it as they are
odd_same : (kind : Kind) (rs : List (List ℤ)) (n : ℕ) → (0 < length rs → 0 < wanted kind rs) → odd_from (width_or (wanted kind rs) n) 1 rs ≡ odd_from (wanted kind rs) 1 rs
unfolding odd_from
odd_same kind [] n h = refl
odd_same kind (x ∷ rs) n h =
    let e : width_or (wanted kind (x ∷ rs)) n ≡ wanted kind (x ∷ rs) = width_known _ n (h (omega arith)) in
    ap (λ (w : ℕ). odd_from w 1 (x ∷ rs)) e

pub in_order_snoc : (rs : List (List ℤ)) (r : List ℤ) → in_order (rs ++ (r ∷ [])) ≡ in_order rs ++ r
unfolding in_order
in_order_snoc [] r = append-nil r
in_order_snoc (x ∷ rs) r = rw (in_order_snoc rs r) (sym (append_assoc x (in_order rs) r))

-- the counts of the records rs and of the fields r of the record after them; b says that this record has a minus
pub record Tallied (kind : Kind) (b : Bool) (rs : List (List ℤ)) (r : List ℤ) (t : Tally) : Type 0 where
  pub records : t.records ≡ length rs
  pub fields : t.fields ≡ length r
  pub width : t.width ≡ wanted kind rs
  pub odd : t.odd ≡ odd_from (wanted kind rs) 1 rs
  pub values : t.values ≡ length (in_order rs) + length r
  pub some : 0 < length rs → 0 < wanted kind rs
  pub rebate : t.rebate ≡ b

pub tally_start : (kind : Kind) → Tallied kind false [] [] (start_tally kind)
unfolding odd_from in_order
tally_start kind = record { records = refl; fields = refl; width = refl; odd = refl; values = refl; some = λ h. absurd (omega arith); rebate = refl }

pub tally_field : (kind : Kind) (b : Bool) (rs : List (List ℤ)) (r : List ℤ) (t : Tally) (m : Bool) (v : ℤ) → Tallied kind b rs r t → Tallied kind (m || b) rs (row_with v r) (field_tally m t)
tally_field kind b rs r t m v k = record {
  records = k.records;
  fields = omega (arith, k.fields, length-append r (v ∷ []));
  width = k.width;
  odd = k.odd;
  values = omega (arith, k.values, length-append r (v ∷ []));
  some = k.some;
  rebate = ap (λ (x : Bool). m || x) k.rebate;
}

pub tally_record :
    (kind : Kind) (b : Bool) (rs : List (List ℤ)) (r : List ℤ) (t : Tally) → 0 < length r → Tallied kind b rs r t → Tallied kind false (rs ++ (r ∷ [])) [] (record_tally t)
tally_record kind b rs r t h k = record {
  records = omega (arith, k.records, length-append rs (r ∷ []));
  fields = refl;
  width = rw (k.width, k.fields) (sym (wanted_snoc kind rs r k.some));
  odd =
      let e : t.records + 1 ≡ 1 + length rs = omega (arith, k.records) in
      rw (k.odd, k.width, k.fields, e, wanted_snoc kind rs r k.some, odd_snoc, odd_same kind rs (length r) k.some) refl;
  values = omega (arith, k.values, ap length (in_order_snoc rs r), length-append (in_order rs) r);
  some = λ _. rw (wanted_snoc kind rs r k.some) (width_some (wanted kind rs) (length r) h);
  rebate = refl;
}

-- whether this record is known to be a source's
pub tally_source : {kind : Kind} {b : Bool} {rs : List (List ℤ)} {r : List ℤ} {t : Tally} → Tallied kind b rs r t → (b || is_first rs) ≡ source_tally t
tally_source {b = b} {rs = rs} k = rw (k.rebate, k.records) (ap (λ (x : Bool). b || x) (first rs))
  where
    first : (rs : List (List ℤ)) → is_first rs ≡ eqb (length rs) 0
    first [] = refl
    first (x ∷ rs) = sym (eqb-suc-zero (length rs))

pub judged_odd : (odd records fields : ℕ) → (odd ≡ 0 → ⊥) → refused causes.Fields odd ≡ judged odd records fields
judged_odd zero records fields h = absurd (h refl)
judged_odd (suc odd) records fields h = refl

-- the same counts have the same parts
abbrev records_of : Table → ℕ
records_of (Ok t) = t.records
records_of (Err r) = 0

abbrev fields_of : Table → ℕ
fields_of (Ok t) = t.fields
fields_of (Err r) = 0

pub same_shape : {records records' fields fields' : ℕ} → shaped records fields ≡ shaped records' fields' → (records ≡ records') × (fields ≡ fields')
same_shape e = (ap records_of e, ap fields_of e)

pub judged_whole : (odd records fields records' fields' : ℕ) → judged odd records fields ≡ shaped records' fields' → (odd ≡ 0) × (records ≡ records') × (fields ≡ fields')
judged_whole zero records fields records' fields' e = (refl, (same_shape e).0, (same_shape e).1)
judged_whole (suc odd) records fields records' fields' e = absurd (let z : ◌≡◌ {A = ℕ} 0 1 = cc in omega arith)
