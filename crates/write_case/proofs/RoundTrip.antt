-- A case that can be written, read again: its two texts are accepted and are that case. Assumes nothing.
use mathlib.Core.Path.{◌≡◌, refl, ap}
use mathlib.Core.Option.{Option, none, some}
use Prim.Native.Nat.{ℕ, ◌+◌, ◌-◌, ◌*◌, ◌≤◌, ◌<◌}
use native.Mathlib.Omega.{arith}
use borrow.Author.Tests.{ltb-false}
use lib.Dec.{ltb}
use lib.ListN.{length, replicate}
use Rattle.problem.specs.Case.{Case, entry}
use Rattle.problem.specs.Outcome.{refused, refuse_at}
use Rattle.planner.specs.Judge.{case_refusal}
use Rattle.problem.proofs.FirstFailing.{none_passes}
use Rattle.problem.proofs.TestsPassed.{first_passes, second_passes, some≢none, Formed, formed}
use Rattle.planner.proofs.Judging.{case_formed}
use Rattle.plan_files.proofs.Printing.{small_cost}
use Rattle.csv_form.specs.declared.Kind.TheVariants.{Tariff, Production}
use Rattle.csv_form.specs.Records.{whole, form_of}
use Rattle.csv_table.specs.Files.{shaped, wanted, table_of}
use Rattle.csv_case.specs.CaseFiles.{counts, case_answer}
use Rattle.plan_files.specs.Printed.{filed_case, file_case}
use Rattle.case_texts.specs.Texts.{tariff_text, production_text, tariff_records, production_records}
use Rattle.write_case.specs.Writing.{test32, entries_refusal}
use Rattle.case_texts.proofs.TextRecords.{Small, tariff_form, production_form}
use Rattle.case_texts.proofs.TextLengths.{tariff_most, production_most}
use Rattle.write_case.proofs.RecordsCase.{table_whole, tariff_even, tariff_count, tariff_wanted, case_is, production_even, production_count}

-- the same sources, terminals, costs, supplies, demands and table, taken with least runs 0 and ceilings 4,000, with the cells that files have for an answer
abbrev pub case_alone : Case → Case
case_alone c = filed_case c.m c.n c.costs c.supplies c.demands (replicate (c.m * c.n) 4000) c.table

refuse_at_none : (k : ℕ) (o : Option ℕ) → refuse_at k o ≡ none → o ≡ none
unfolding refuse_at
refuse_at_none k none e = refl
refuse_at_none k (some p) e = absurd (some≢none (refused k p) e)

entries_hold : (c : Case) → test32 c ≡ none → (y : ℕ) → y < length c.table → entry c y ≤ 9999999999
unfolding test32
entries_hold c e y h = ltb-false 9999999999 (entry c y) (none_passes (λ y. ltb 9999999999 (entry c y)) 0 (length c.table) (refuse_at_none 32 _ e) y (omega arith) (omega arith))

module _ (c : Case) (e : entries_refusal c ≡ none) where
  passes : case_refusal c ≡ none
  unfolding entries_refusal
  passes = first_passes (case_refusal c) (test32 c) e

  pub form_passes : Formed c
  form_passes = formed c (case_formed c passes)

  pub held : (y : ℕ) → y < length c.table → entry c y ≤ 9999999999
  unfolding entries_refusal
  held = entries_hold c (second_passes (case_refusal c) (test32 c) e)

  small : Small c.m c.n c.costs c.supplies c.demands
  small = let f = form_passes in record {
    small_costs = λ k h. omega (arith, small_cost _ (f.cost_inside k h));
    small_supplies = λ i h. omega (arith, f.small_supply i h);
    small_demands = λ j h. omega (arith, f.small_demand j h);
  }

  -- each text read again is the case's records
  pub tariff_reads : form_of Tariff (tariff_text c) ≡ whole (tariff_records c.m c.n c.costs c.supplies c.demands)
  tariff_reads = let f = form_passes in tariff_form c.m c.n c.costs c.supplies c.demands (omega (arith, f.two_sources)) f.one_terminal small

  pub production_reads : form_of Production (production_text c) ≡ whole (production_records c.table)
  production_reads = production_form c.table (omega (arith, form_passes.table_long)) held

  -- no text is longer than a file may be
  pub tariff_short : length (tariff_text c) ≤ 65536
  tariff_short = let f = form_passes in tariff_most c.m c.n c.costs c.supplies c.demands f.few_sources f.few_terminals small

  pub production_short : length (production_text c) ≤ 65536
  production_short =
      let f = form_passes in
      production_most c.table (omega (arith, f.table_long, f.small_supply 0 (omega (arith, f.two_sources)))) held

  -- the two texts are accepted, with m, n and the count of entries
  pub both_stand : case_answer (tariff_text c) (production_text c) ≡ counts c.m c.n (length c.table)
  unfolding case_answer wanted
  both_stand =
      let t : table_of Tariff (tariff_text c) ≡ shaped (length (tariff_records c.m c.n c.costs c.supplies c.demands)) (c.n + 1)
      = table_whole Tariff (tariff_text c) _ (c.n + 1) tariff_short tariff_reads (tariff_wanted c.m c.n c.costs c.supplies c.demands)
      (tariff_even c.m c.n c.costs c.supplies c.demands) in
      let p : table_of Production (production_text c) ≡ shaped (length (production_records c.table)) 1
      = table_whole Production (production_text c) _ 1 production_short production_reads refl (production_even c.table) in
      let a : c.m + 1 - 1 ≡ c.m = omega arith in
      let b : c.n + 1 - 1 ≡ c.n = omega arith in
      rw (t, p, tariff_count c.m c.n c.costs c.supplies c.demands, production_count c.table, a, b) refl

  -- the round trip: the two texts are that case
  pub round_trip : file_case (tariff_text c) (production_text c) ≡ case_alone c
  unfolding file_case
  round_trip =
      let f = form_passes in
      rw (tariff_reads, production_reads) (case_is c.m c.n c.costs c.supplies c.demands c.table f.costs_long f.supplies_long f.demands_long)

  -- written again, the bytes are the same
  pub tariff_again : tariff_text (file_case (tariff_text c) (production_text c)) ≡ tariff_text c
  tariff_again = ap tariff_text round_trip

  pub production_again : production_text (file_case (tariff_text c) (production_text c)) ≡ production_text c
  production_again = ap production_text round_trip

  -- what the writer's parts ask
  pub tariff_room :
      ((c.m ≤ 32) × (c.n ≤ 64)) × ((c.m * c.n ≤ length c.costs) × (c.m ≤ length c.supplies) × (c.n ≤ length c.demands))
  tariff_room =
      let f = form_passes in
      ((f.few_sources, f.few_terminals), (omega (arith, f.costs_long), omega (arith, f.supplies_long), omega (arith, f.demands_long)))

  pub table_room : length c.table ≤ 4001
  table_room = let f = form_passes in omega (arith, f.table_long, f.small_supply 0 (omega (arith, f.two_sources)))
