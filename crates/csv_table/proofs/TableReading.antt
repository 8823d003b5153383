-- A file is judged, and then its fields are stored or none is. Assumes nothing.
use mathlib.Core.Path.{◌≡◌, refl, sym, ◌∙◌}
use mathlib.Core.Bool.{Bool, true, false}
use mathlib.Core.List.{List}
use Prim.Native.Nat.{ℕ, ◌≤◌}
use native.Mathlib.Omega.{arith}
use borrow.Author.Tests.{ltb-false}
use lib.Dec.{ltb}
use lib.IntN.{ℤ}
use lib.ListN.{length}
use Rattle.csv_form.specs.declared.Kind.{Kind}
use Rattle.std.proofs.Common.{Err}
use Rattle.refusal.specs.declared.Refusal.{Refusal}
use Rattle.csv_form.specs.Records.{Form, whole, broken, form_of}
use Rattle.refusal.specs.declared.Cause.TheVariants as causes
use Rattle.csv_table.specs.Files.{Table, shaped, refused, judge, table_of, pick_table, fields_stored}
use Rattle.csv_table.specs.inner.Tallies.{Scanned, TableRead}

module _ (kind : Kind) (s : List ℕ) (spare spare' : List ℤ) (t : Table) (judged : Scanned kind s spare spare' t) (cells : List ℤ) where
  pub refused_read : (r : Refusal) → t ≡ Err r → TableRead kind s cells cells t
  refused_read r e =
      let told : table_of kind s ≡ Err r = sym judged.answered ∙ e in
      record { answered = judged.answered; some = judged.some; stored = rw told refl }

  module _ (cells' : List ℤ) (t' : Table) (scanned : Scanned kind s cells cells' t') where
    -- the fields of an accepted file are stored
    stored_whole : (records fields : ℕ) → table_of kind s ≡ shaped records fields → cells' ≡ fields_stored (shaped records fields) (form_of kind s) cells
    unfolding table_of judge
    stored_whole records fields e = by_size (ltb 65536 (length s)) refl e
      where
        by_form : length s ≤ 65536 → (f : Form) → form_of kind s ≡ f → judge kind f ≡ shaped records fields → cells' ≡ fields_stored (shaped records fields) f cells
        by_form short (broken place) k w = absurd (let z : ◌≡◌ {A = ℕ} 0 1 = cc in omega arith)
        by_form short (whole rs) k w = scanned.stored rs short k

        by_size :
            (b : Bool) → ltb 65536 (length s) ≡ b → pick_table b (refused causes.File 0) (judge kind (form_of kind s)) ≡ shaped records fields →
            cells' ≡ fields_stored (shaped records fields) (form_of kind s) cells
        by_size true k w = absurd (let z : ◌≡◌ {A = ℕ} 0 1 = cc in omega arith)
        by_size false k w = by_form (ltb-false 65536 (length s) k) (form_of kind s) refl w

    pub whole_read : (records fields : ℕ) → t ≡ shaped records fields → TableRead kind s cells cells' t'
    whole_read records fields e =
        let told : table_of kind s ≡ shaped records fields = sym judged.answered ∙ e in
        record { answered = scanned.answered; some = scanned.some; stored = rw told (stored_whole records fields told) }
