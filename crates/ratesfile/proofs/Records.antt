-- The rates' text: every record has at most six bytes. Assumes nothing.
use mathlib.Core.Path.{◌≡◌, refl, sym, ap, ◌∙◌, subst}
use mathlib.Core.List.{List, []}
use Prim.Native.Nat.{ℕ, ◌+◌, ◌*◌, ◌≤◌, ◌<◌}
use native.Mathlib.Decide.{dec_lt}
use native.Mathlib.Nat.{mul-le-mul}
use native.Mathlib.Omega.{arith}
use lib.ListN.{length, get_or, take}
use borrow.Author.Tests.{lt-ltb, le-ltb}
use Rattle.std.specs.Prelude.{Option}
use Rattle.csv_print.specs.Column.{column_text, column_printed}
use Rattle.csv_print.specs.inner.Writing.{Written}
use Rattle.csv_print.proofs.Columns.{column_short}
use Rattle.ratetable.specs.Rate.{rate, rates_from, RateTable}
use Rattle.ratetable.proofs.Squares.{rate_is}
use Rattle.ratetable.proofs.Filling.{from_length, from_at, table_takes}
use Rattle.ratesfile.specs.File.{rates_text, text_for, file_text}
use Rattle.numbers.specs.Short.{short_of}

-- up to an output of 4,000 a rate has at most four digits
four_digits : (y : ℕ) → y ≤ 4000 → rate y < 10000
four_digits y h = elim (dec_lt (rate y) 10000) [
  | yes l ↦ l
  | no l ↦ absurd (let m : 10000 ≤ rate y = omega arith in omega (arith, mul-le-mul m m, (rate_is y).under))
]

rates_short : (most : ℕ) → most ≤ 4000 → length (column_text (rates_from 0 (most + 1))) ≤ 24006
rates_short most h =
    let l = rates_from 0 (most + 1) in
    let n : length l ≡ most + 1 = from_length 0 (most + 1) in
    let s : length (column_text l) ≤ (3 + 3) * length l = column_short l 3 (λ j q.
    let e : get_or l j 0 ≡ rate (0 + j) = from_at 0 (most + 1) j (omega arith) in
    omega (arith, four_digits (0 + j) (omega arith))) in
    omega arith

pub none_above : (most : ℕ) {out : List ℕ} → 4000 < most → Written out out 0 0 (rates_text most) 24006
unfolding rates_text
none_above most h = rw (lt-ltb 4000 most h) (record { bytes = refl; ends = refl; short = omega arith })

-- the column of a table's first numbers is the rates' text
pub column_of_rates : (most : ℕ) {all out out' : List ℕ} {r k : ℕ} → most ≤ 4000 → RateTable all
    → Written out out' 0 r (column_printed (take (most + 1) all)) k → Written out out' 0 r (rates_text most) 24006
unfolding rates_text column_printed
column_of_rates most {all} {out} {out'} {r} {k} h t w =
    let l = rates_from 0 (most + 1) in
    let few : length l ≤ 4294967295 = omega (arith, from_length 0 (most + 1)) in
    let same : column_printed (take (most + 1) all) ≡ column_text l = ap column_printed (table_takes t (most + 1) (omega arith)) ∙ rw (le-ltb 4294967295 (length l) few) refl in
    let v : Written out out' 0 r (column_text l) k = subst (λ (x : List ℕ). Written out out' 0 r x k) same w in
    rw (le-ltb 4000 most h) (record { bytes = v.bytes; ends = v.ends; short = rates_short most h })

-- the file for the output that a text names
pub file_for : (text : List ℕ) (o : Option ℕ) {out out' : List ℕ} {r : ℕ} → short_of text ≡ o → Written out out' 0 r (text_for o) 24006
    → Written out out' 0 r (file_text text) 24006
unfolding file_text
file_for text o {out} {out'} {r} e w = subst (λ (o : Option ℕ). Written out out' 0 r (text_for o) 24006) (sym e) w

pub no_file : {out : List ℕ} → Written out out 0 0 [] 24006
no_file = record { bytes = refl; ends = refl; short = omega arith }
