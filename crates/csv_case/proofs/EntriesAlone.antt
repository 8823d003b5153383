-- A production file read alone. Assumes nothing.
use mathlib.Core.Path.{◌≡◌, refl, sym, ap, ◌∙◌}
use mathlib.Core.List.{List, map}
use Prim.Native.Nat.{ℕ, min, ◌*◌}
use native.Mathlib.Omega.{arith}
use lib.IntN.{ℤ, nat_abs}
use lib.ListN.{length, take, length-map}
use lib.Seq.{sets}
use Rattle.csv_form.specs.declared.Kind.TheVariants.{Production}
use Rattle.std.proofs.Common.{Result, Ok, Err}
use Rattle.refusal.specs.declared.Refusal.{Refusal}
use Rattle.csv_table.specs.Files.{Table, shaped, wanted, table_of, in_order}
use Rattle.csv_table.specs.inner.Tallies.{TableRead}
use Rattle.csv_case.specs.CaseFiles.{entries_in}
use Rattle.csv_case.specs.Entries.{entries_of, EntriesStored}
use Rattle.csv_case.proofs.TariffCase.{Accepted, accepted, even_length, fields_read, stored_entries}

-- the count that is read
abbrev count_of : Result ℕ Refusal → ℕ
count_of (Ok count) = count
count_of (Err r) = 0

-- one field in each record: as many fields as records
fields_long : (p : List ℕ) (records one : ℕ) (a : Accepted Production p records one) → length (in_order a.rows) ≡ records
unfolding wanted
fields_long p records one a = even_length one a.rows a.all ∙ omega (arith, ap (λ (x : ℕ). length a.rows * x) a.width, a.counted)

entries_are : (p : List ℕ) (records one : ℕ) (a : Accepted Production p records one) → entries_of p ≡ entries_in a.rows
unfolding entries_of
entries_are p records one a = rw a.form refl

entries_long : (p : List ℕ) (records one : ℕ) (a : Accepted Production p records one) → length (entries_in a.rows) ≡ records
unfolding entries_in
entries_long p records one a = length-map (in_order a.rows) nat_abs ∙ fields_long p records one a

pub entries_read :
    (p table table' : List ℕ) (held held' : List ℤ) (records one : ℕ) (t : Table) → length held ≡ 4002 → t ≡ shaped records one → TableRead Production p held held' t →
    table' ≡ sets table 0 (map nat_abs (take (min records 4002) held')) → EntriesStored p table table' (Ok records)
entries_read p table table' held held' records one t long e read shared =
    let told : table_of Production p ≡ shaped records one = sym read.answered ∙ e in
    let a = accepted Production p records one told in
    let same = entries_are p records one a in
    let kept : held' ≡ sets held 0 (in_order a.rows) = fields_read read told a.form in
    record {
      answered = rw told refl;
      counted = λ count w. let k : records ≡ count = ap count_of w in sym k ∙ sym (entries_long p records one a) ∙ sym (ap length same);
      stored =
          λ count w. shared ∙ ap (λ (l : List ℕ). sets table 0 l) (stored_entries held held' a.rows records long (fields_long p records one a) kept ∙ ap (λ (l : List ℕ). take 4002 l) (sym same));
      kept = λ r w. absurd (let z : ◌≡◌ {A = ℕ} 0 1 = cc in omega arith);
    }

pub entries_refused : (p table : List ℕ) (r : Refusal) (t : Table) → t ≡ Err r → t ≡ table_of Production p → EntriesStored p table table (Err r)
entries_refused p table r t e k =
    let told : table_of Production p ≡ Err r = sym k ∙ e in
    record {
      answered = rw told refl;
      counted = λ count w. absurd (let z : ◌≡◌ {A = ℕ} 0 1 = cc in omega arith);
      stored = λ count w. absurd (let z : ◌≡◌ {A = ℕ} 0 1 = cc in omega arith);
      kept = λ r' w. refl;
    }
