-- Laws of what is told of the numbers that files hold. Assumes nothing.
use mathlib.Core.Path.{◌≡◌, refl, sym, ap, ◌∙◌, subst}
use mathlib.Core.Bool.{Bool, true, false, cond}
use mathlib.Core.List.{List, [], ◌∷◌}
use Prim.Native.Nat.{ℕ, min, ◌*◌, ◌≤◌, ◌<◌}
use native.Mathlib.Omega.{arith}
use lib.Dec.{ltb}
use lib.IntN.{ℤ}
use lib.ListN.{length, set, take}
use borrow.Author.Tests.{lt-ltb, le-ltb}
use Rattle.transport.specs.Curve.{written}
use Rattle.std.proofs.Common.{Result, Ok, Err}
use Rattle.refusal.specs.declared.Cause.{Cause}
use Rattle.refusal.specs.declared.Cause.TheVariants.{Room}
use Rattle.refusal.specs.declared.Refusal.{Refusal}
use Rattle.refusal.specs.Number.{number_of}
use Rattle.size.specs.declared.limits.Size.{Size}
use Rattle.size.specs.Size.{checked_of}
use Rattle.validation.proofs.FormTests.{Limits, in_limits}
use Rattle.csv_form.specs.declared.Kind.TheVariants.{Production}
use Rattle.csv_table.specs.Files.{refused, table_of}
use Rattle.csv_case.specs.CaseFiles.{CaseAnswer, counts, case_answer, TariffStored, CaseStored}
use Rattle.csv_case.specs.Entries.{entries_of, entries_for, EntriesStored}
use Rattle.csv_case.proofs.CaseLengths.{BothStand, both_stand}
use Rattle.export_reports.specs.Report.{short_report}
use Rattle.export_files.specs.declared.reading.Reading.{Reading}
use Rattle.export_files.specs.declared.reading.Reading.TheVariants.{Read, Refused}
use Rattle.export_files.specs.Reading.{faulty_file, too_short, roomy_reading, by_size, sized_reading, reading_for, reading_of, reading_number}
use Rattle.export_files.specs.Reading.{reading_report, CaseRead, ReadTold, ReadUntold, ReadExported, entries_reading, entries_number, entries_report}
use Rattle.export_files.specs.Reading.{entries_if, entries_answer, EntriesTold, EntriesUntold, EntriesExported}

pub three_written : (l : List ℕ) (a b c : ℕ) → 3 ≤ length l → set (set (set l 0 a) 1 b) 2 c ≡ written (a ∷ b ∷ c ∷ []) l
three_written [] a b c h = absurd (omega arith)
three_written (u ∷ []) a b c h = absurd (omega arith)
three_written (u ∷ v ∷ []) a b c h = absurd (omega arith)
three_written (u ∷ v ∷ w ∷ l) a b c h = refl

-- ---- the answer, step by step

module _ (m n count costs supplies demands table : ℕ) where
  pub few_costs : costs < m * n → true ≡ too_short m n count costs supplies demands table
  unfolding too_short
  few_costs h = sym (simp (lt-ltb costs (m * n) h))

  pub few_supplies : m * n ≤ costs → supplies < m → true ≡ too_short m n count costs supplies demands table
  unfolding too_short
  few_supplies a h = sym (simp (le-ltb costs (m * n) a, lt-ltb supplies m h))

  pub few_demands : m * n ≤ costs → m ≤ supplies → demands < n → true ≡ too_short m n count costs supplies demands table
  unfolding too_short
  few_demands a b h = sym (simp (le-ltb costs (m * n) a, le-ltb supplies m b, lt-ltb demands n h))

  pub by_table : (k : ℕ) → m * n ≤ costs → m ≤ supplies → n ≤ demands → k ≡ min count 4002 → ltb table k ≡ too_short m n count costs supplies demands table
  unfolding too_short
  by_table k a b c e = ap (ltb table) e ∙ sym (simp (le-ltb costs (m * n) a, le-ltb supplies m b, le-ltb demands n c))

  pub roomy_refused : too_short m n count costs supplies demands table ≡ true → Refused 11 0 0 ≡ roomy_reading m n count costs supplies demands table
  unfolding roomy_reading
  roomy_refused e = sym (ap (λ (b : Bool). cond b (Refused 11 0 0) (Read m n count)) e)

  pub roomy_read : too_short m n count costs supplies demands table ≡ false → Read m n count ≡ roomy_reading m n count costs supplies demands table
  unfolding roomy_reading
  roomy_read e = sym (ap (λ (b : Bool). cond b (Refused 11 0 0) (Read m n count)) e)

  pub size_refused : (k : Cause) → checked_of m n ≡ Err k → Refused (number_of k) 0 0 ≡ sized_reading m n count costs supplies demands table
  unfolding sized_reading
  size_refused k e = sym (ap (λ (x : Result Size Cause). by_size x (roomy_reading m n count costs supplies demands table)) e)

  pub size_fits : (z : Size) (r : Reading) → checked_of m n ≡ Ok z → r ≡ roomy_reading m n count costs supplies demands table
      → r ≡ sized_reading m n count costs supplies demands table
  unfolding sized_reading
  size_fits z r e q = q ∙ sym (ap (λ (x : Result Size Cause). by_size x (roomy_reading m n count costs supplies demands table)) e)

module _ (t p : List ℕ) (costs supplies demands table : ℕ) where
  pub files_refused : (why : Refusal) (file : ℕ) → case_answer t p ≡ Err why → file ≡ faulty_file t
      → {number : ℕ} → number ≡ number_of why.cause → Refused number why.place file ≡ reading_of t p costs supplies demands table
  unfolding reading_of
  files_refused why file e q k =
      ap (λ (n : ℕ). Refused n why.place file) k ∙ ap (λ (f : ℕ). Refused (number_of why.cause) why.place f) q ∙ sym (ap (λ (a : CaseAnswer). reading_for a (faulty_file t) costs supplies demands table) e)

  pub files_case : (m n count : ℕ) (r : Reading) → case_answer t p ≡ counts m n count → r ≡ sized_reading m n count costs supplies demands table
      → r ≡ reading_of t p costs supplies demands table
  unfolding reading_of
  files_case m n count r e q = q ∙ sym (ap (λ (a : CaseAnswer). reading_for a (faulty_file t) costs supplies demands table) e)

  -- what is read was a case within the limits
  record Found (m n count : ℕ) : Type 0 where
    case : case_answer t p ≡ counts m n count
    limits : Limits m n

  found : (m n count : ℕ) → reading_of t p costs supplies demands table ≡ Read m n count → Found m n count
  unfolding reading_of roomy_reading sized_reading
  found m n count e = go (case_answer t p) refl e
    where
      room : (x y z : ℕ) → case_answer t p ≡ counts x y z → Limits x y → roomy_reading x y z costs supplies demands table ≡ Read m n count → Found m n count
      room x y z ea l e = at (too_short x y z costs supplies demands table) refl e
        where
          at : (b : Bool) → too_short x y z costs supplies demands table ≡ b → cond b (Refused 11 0 0) (Read x y z) ≡ Read m n count → Found m n count
          at true eb e = absurd (let z : ◌≡◌ {A = ℕ} 0 1 = cc in omega arith)
          at false eb e =
              let ex : x ≡ m = cc in
              let ey : y ≡ n = cc in
              let ez : z ≡ count = cc in
              record { case = ea ∙ rw (ex, ey, ez) refl; limits = rw (← ex, ← ey) l }

      size : (x y z : ℕ) → case_answer t p ≡ counts x y z → sized_reading x y z costs supplies demands table ≡ Read m n count → Found m n count
      size x y z ea e = at (checked_of x y) refl e
        where
          at : (k : Result Size Cause) → checked_of x y ≡ k → by_size k (roomy_reading x y z costs supplies demands table) ≡ Read m n count → Found m n count
          at (Err k) ek e = absurd (let z : ◌≡◌ {A = ℕ} 0 1 = cc in omega arith)
          at (Ok s) ek e = room x y z ea (in_limits x y s ek) e

      go : (a : CaseAnswer) → case_answer t p ≡ a → reading_for a (faulty_file t) costs supplies demands table ≡ Read m n count → Found m n count
      go (Err q) ea e = absurd (let z : ◌≡◌ {A = ℕ} 0 1 = cc in omega arith)
      go (Ok k) ea e = size k.m k.n k.entries ea e

-- ---- what is stored

module _ (t p : List ℕ) (costs : List ℤ) (supplies demands table : List ℕ) where
  abbrev due : Reading
  due = reading_of t p (length costs) (length supplies) (length demands) (length table)

  pub into_refused : (a : Reading) (number place file : ℕ) → a ≡ due → a ≡ Refused number place file
      → CaseRead t p costs supplies demands table costs supplies demands table (Refused number place file)
  into_refused a number place file k e = record { answered = sym e ∙ k; costs_cells = refl; supplies_cells = refl; demands_cells = refl; table_cells = refl }

  module _ (costs' : List ℤ) (supplies' demands' table' : List ℕ) where
    pub into_read : (a : Reading) (m n count : ℕ) (answer : CaseAnswer) → a ≡ due → a ≡ Read m n count
        → CaseStored t p costs supplies demands table costs' supplies' demands' table' answer
        → CaseRead t p costs supplies demands table costs' supplies' demands' table' (Read m n count)
    unfolding entries_of
    into_read a m n count answer k e s =
        let f : Found t p (length costs) (length supplies) (length demands) (length table) m n count = found t p _ _ _ _ m n count (sym k ∙ e) in
        let told : answer ≡ counts m n count = s.answered ∙ f.case in
        let b : BothStand t p m n count = both_stand t p m n count f.case in
        let held : TariffStored b.rs costs supplies demands costs' supplies' demands' = s.tariff_stored b.rs m n count b.tariff told f.limits.sources f.limits.terminals in
        record {
          answered = sym e ∙ k;
          costs_cells = rw b.tariff held.costs_stored;
          supplies_cells = rw b.tariff held.supplies_stored;
          demands_cells = rw b.tariff held.demands_stored;
          table_cells = rw b.production (s.table_stored b.qs m n count b.production told);
        }

    -- the answer is told by its number and its cells
    pub read_told : (a : Reading) (report reported : List ℕ) (r : ℕ) → 3 ≤ length report
        → CaseRead t p costs supplies demands table costs' supplies' demands' table' a → r ≡ reading_number a → reported ≡ written (reading_report a) report
        → ReadExported t p costs supplies demands table costs' supplies' demands' table' report reported r
    unfolding ReadExported
    read_told a report reported r h s x w =
        let q : a ≡ due = s.answered in
        subst (λ (b : Bool).
        cond b (ReadUntold costs supplies demands table costs' supplies' demands' table' report reported r)
        (ReadTold t p costs supplies demands table costs' supplies' demands' table' report reported r))
        (sym (le-ltb (length report) 3 h))
        record {
          number = x ∙ ap reading_number q;
          cells = w ∙ ap (λ (a : Reading). written (reading_report a) report) q;
          stored = subst (λ (a : Reading). CaseRead t p costs supplies demands table costs' supplies' demands' table' a) q s;
        }

  pub read_untold : (report : List ℕ) → length report < 3
      → ReadExported t p costs supplies demands table costs supplies demands table report report short_report
  unfolding ReadExported
  read_untold report h =
      subst (λ (b : Bool).
      cond b (ReadUntold costs supplies demands table costs supplies demands table report report short_report)
      (ReadTold t p costs supplies demands table costs supplies demands table report report short_report))
      (sym (lt-ltb (length report) 3 h))
      record { number = refl; cells = refl; costs_kept = refl; supplies_kept = refl; demands_kept = refl; table_kept = refl }

-- ---- a production file alone

module _ (p : List ℕ) (table : ℕ) where
  pub entries_faulty : (a : Result ℕ Refusal) (why : Refusal) → a ≡ entries_for (table_of Production p) → a ≡ Err why
      → Err why ≡ entries_answer p table
  unfolding entries_answer
  entries_faulty a why k e = sym (ap (λ (x : Result ℕ Refusal). entries_reading x table) (sym k ∙ e))

  pub entries_short : (a : Result ℕ Refusal) (count k : ℕ) → a ≡ entries_for (table_of Production p) → a ≡ Ok count → k ≡ min count 4002 → table < k
      → refused Room 0 ≡ entries_answer p table
  unfolding entries_answer
  entries_short a count k q e m h =
      sym (ap (λ (x : Result ℕ Refusal). entries_reading x table) (sym q ∙ e)
      ∙ ap (λ (b : Bool). cond b (refused Room 0) (Ok count)) (ap (ltb table) (sym m) ∙ lt-ltb table k h))

  pub entries_roomy : (a : Result ℕ Refusal) (count k : ℕ) → a ≡ entries_for (table_of Production p) → a ≡ Ok count → k ≡ min count 4002 → k ≤ table
      → Ok count ≡ entries_answer p table
  unfolding entries_answer
  entries_roomy a count k q e m h =
      sym (ap (λ (x : Result ℕ Refusal). entries_reading x table) (sym q ∙ e)
      ∙ ap (λ (b : Bool). cond b (refused Room 0) (Ok count)) (ap (ltb table) (sym m) ∙ le-ltb table k h))

module _ (p table report : List ℕ) where
  pub entries_untold : length report < 2 → EntriesExported p table table report report short_report
  unfolding EntriesExported
  entries_untold h =
      subst (λ (b : Bool). cond b (EntriesUntold table table report report short_report) (EntriesTold p table table report report short_report)) (sym (lt-ltb (length report) 2 h))
      record { number = refl; cells = refl; table_kept = refl }

  entries_told : (table' reported : List ℕ) (r : ℕ) → 2 ≤ length report → EntriesTold p table table' report reported r → EntriesExported p table table' report reported r
  unfolding EntriesExported
  entries_told table' reported r h x =
      subst (λ (b : Bool). cond b (EntriesUntold table table' report reported r) (EntriesTold p table table' report reported r)) (sym (le-ltb (length report) 2 h)) x

  pub entries_refused : (a : Result ℕ Refusal) (why : Refusal) (reported : List ℕ) → 2 ≤ length report → a ≡ entries_answer p (length table) → a ≡ Err why
      → reported ≡ written (why.place ∷ []) report → {number : ℕ} → number ≡ number_of why.cause → EntriesExported p table table report reported number
  entries_refused a why reported h k e w {number} n =
      let q : entries_answer p (length table) ≡ Err why = sym k ∙ e in
      entries_told table reported number h
      record {
        number = n ∙ sym (ap entries_number q);
        cells = w ∙ sym (ap (λ (x : Result ℕ Refusal). written (entries_report x) report) q);
        stored = sym (ap (λ (x : Result ℕ Refusal). entries_if x (take 4002 (entries_of p)) table) q);
      }

  -- what is read was no refusal of the file
  read_count : (count : ℕ) → entries_answer p (length table) ≡ Ok count → entries_for (table_of Production p) ≡ Ok count
  unfolding entries_answer
  read_count count e = go (entries_for (table_of Production p)) refl e
    where
      go : (a : Result ℕ Refusal) → entries_for (table_of Production p) ≡ a → entries_reading a (length table) ≡ Ok count → entries_for (table_of Production p) ≡ Ok count
      go (Err q) ea e = absurd (let z : ◌≡◌ {A = ℕ} 0 1 = cc in omega arith)
      go (Ok k) ea e = at (ltb (length table) (min k 4002)) e
        where
          at : (b : Bool) → cond b (refused Room 0) (Ok k) ≡ Ok count → entries_for (table_of Production p) ≡ Ok count
          at true e = absurd (let z : ◌≡◌ {A = ℕ} 0 1 = cc in omega arith)
          at false e = ea ∙ e

  pub entries_stored : (a again : Result ℕ Refusal) (count : ℕ) (table' reported : List ℕ) → 2 ≤ length report → a ≡ entries_answer p (length table) → a ≡ Ok count
      → EntriesStored p table table' again → reported ≡ written (count ∷ []) report → EntriesExported p table table' report reported 0
  entries_stored a again count table' reported h k e s w =
      let q : entries_answer p (length table) ≡ Ok count = sym k ∙ e in
      entries_told table' reported 0 h
      record {
        number = sym (ap entries_number q);
        cells = w ∙ sym (ap (λ (x : Result ℕ Refusal). written (entries_report x) report) q);
        stored = s.stored count (s.answered ∙ read_count count q) ∙ sym (ap (λ (x : Result ℕ Refusal). entries_if x (take 4002 (entries_of p)) table) q);
      }
