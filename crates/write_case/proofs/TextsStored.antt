-- The reader of a case over the two texts: what it answers and stores, and the case's outcome. Assumes nothing.
use mathlib.Core.Path.{◌≡◌, ap, ◌∙◌}
use mathlib.Core.Option.{none}
use mathlib.Core.List.{List}
use Prim.Native.Nat.{ℕ}
use lib.IntN.{ℤ}
use lib.ListN.{length, take}
use native.Mathlib.Omega.{arith}
use lib.Seq.{sets, take_all}
use Rattle.problem.specs.Case.{Case}
use Rattle.problem.specs.Outcome.{outcome_of}
use Rattle.csv_case.specs.CaseFiles.{CaseAnswer, counts as case_counts, CaseStored}
use Rattle.plan_files.specs.Printed.{file_outcome}
use Rattle.case_texts.specs.Texts.{tariff_text, production_text, tariff_records, production_records}
use Rattle.write_case.specs.Writing.{entries_refusal}
use Rattle.write_case.proofs.RecordsCase.{entries_are, costs_are, supplies_are, demands_are}
use Rattle.write_case.proofs.RoundTrip.{case_alone, form_passes, table_room, tariff_reads, production_reads, both_stand, round_trip}

-- the counts, and each list from the first cell on
pub record StoredAgain (c : Case) (costs : List ℤ) (supplies demands table : List ℕ) (costs' : List ℤ) (supplies' demands' table' : List ℕ) (answer : CaseAnswer) : Type 0 where
  pub counts : answer ≡ case_counts c.m c.n (length c.table)
  pub costs_back : costs' ≡ sets costs 0 c.costs
  pub supplies_back : supplies' ≡ sets supplies 0 c.supplies
  pub demands_back : demands' ≡ sets demands 0 c.demands
  pub table_back : table' ≡ sets table 0 c.table

module _ (c : Case) (e : entries_refusal c ≡ none) where
  pub stored_again :
      (costs : List ℤ) (supplies demands table : List ℕ) (costs' : List ℤ) (supplies' demands' table' : List ℕ) (answer : CaseAnswer) →
      CaseStored (tariff_text c) (production_text c) costs supplies demands table costs' supplies' demands' table' answer →
      StoredAgain c costs supplies demands table costs' supplies' demands' table' answer
  stored_again costs supplies demands table costs' supplies' demands' table' answer s =
      let f = form_passes c e in
      let a : answer ≡ case_counts c.m c.n (length c.table) = s.answered ∙ both_stand c e in
      let k = s.tariff_stored (tariff_records c.m c.n c.costs c.supplies c.demands) c.m c.n (length c.table) (tariff_reads c e) a f.few_sources f.few_terminals in
      record {
        counts = a;
        costs_back = k.costs_stored ∙ ap (λ (l : List ℤ). sets costs 0 l) (costs_are c.m c.n c.costs c.supplies c.demands f.costs_long);
        supplies_back = k.supplies_stored ∙ ap (λ (l : List ℕ). sets supplies 0 l) (supplies_are c.m c.n c.costs c.supplies c.demands f.supplies_long);
        demands_back = k.demands_stored ∙ ap (λ (l : List ℕ). sets demands 0 l) (demands_are c.m c.n c.costs c.supplies c.demands f.demands_long);
        table_back =
            s.table_stored (production_records c.table) c.m c.n (length c.table) (production_reads c e) a ∙
            ap (λ (l : List ℕ). sets table 0 l) (ap (λ (l : List ℕ). take 4002 l) (entries_are c.table) ∙ take_all 4002 c.table (omega (arith, table_room c e)));
      }

  -- planned from the two texts, the case has the outcome that it has as it is lent
  pub same_outcome : file_outcome (tariff_text c) (production_text c) ≡ outcome_of (case_alone c)
  unfolding file_outcome
  same_outcome = rw (both_stand c e) (ap outcome_of (round_trip c e))
