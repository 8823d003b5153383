-- The stored case, cut to what it has, is answered as the case of the two files. Assumes nothing.
use mathlib.Core.Path.{◌≡◌, refl, sym, ap, ◌∙◌, subst}
use mathlib.Core.List.{List}
use Prim.Native.Nat.{ℕ, min, ◌+◌, ◌*◌, ◌≤◌, ◌<◌}
use native.Mathlib.Nat.{min-eq_left, mul-le-mul}
use native.Mathlib.Decide.{dec_lt}
use native.Mathlib.Omega.{arith}
use lib.IntN.{ℤ}
use lib.ListN.{length, take, drop, replicate, length-replicate}
use lib.Seq.{sets, sets-eq, take_at, take_all, length-sets, length-take-le}
use Rattle.csv_print.specs.Text.{refusal_text}
use Rattle.problem.specs.Case.{Case}
use Rattle.problem.specs.Outcome.{refused, outcome_of}
use Rattle.size.specs.Size.{checked_of}
use Rattle.size.specs.declared.limits.Size.{Size}
use Rattle.refusal.specs.declared.Cause.{Cause}
use Rattle.refusal.specs.declared.Refusal.{Refusal}
use Rattle.refusal.specs.Number.{number_of}
use Rattle.std.proofs.Common.{Result, Ok, Err}
use Rattle.validation.proofs.FormTests.{Limits, lanes, in_limits, by_size}
use Rattle.planner.proofs.Judging.{cut_ceilings}
use Rattle.plan_files.specs.declared.planned.Printed.{Printed}
use Rattle.csv_case.specs.CaseFiles.{CaseAnswer, counts, costs_in, supplies_in, demands_in, entries_in, case_answer, TariffStored, CaseStored}
use Rattle.plan_files.specs.Printed.{filed_case, case_of, file_case, file_outcome, Told, PlanPrinted, OutcomePrinted, CasePrinted, FilesPrinted}
use Rattle.plan_files.specs.inner.StoredCase.{cut_case, Stored}
use Rattle.csv_case.proofs.CaseLengths.{BothStand, both_stand}
use Rattle.plan_files.proofs.Printing.{printed_refusal}
use Rattle.plan_files.proofs.FileRefusals.{Alike, alike_equal, alike_refused, alike_long}

-- how many cells are kept
pub few_lanes : (m n : ℕ) → min m 32 * min n 64 ≤ 2048
few_lanes m n = mul-le-mul {n₁ = min m 32} {m₁ = min n 64} {n₂ = 32} {m₂ = 64} (omega arith) (omega arith)

-- the ceilings that are lent
pub ceilings_long : (l : List ℕ) → l ≡ replicate {A = ℕ} 2048 4000 → length l ≡ 2048
ceilings_long l e = ap length e ∙ length-replicate {A = ℕ} 2048 4000

-- a case lent in parts that have these lengths is the cut case
pub cut_printed :
    (m n entries a b e : ℕ) (costs : List ℤ) (supplies demands ceilings table out out' : List ℕ) (answer : Printed) → a ≡ min m 32 → b ≡ min n 64 →
    e ≡ min entries 4002 → ceilings ≡ replicate {A = ℕ} 2048 4000 →
    CasePrinted (filed_case m n (take (a * b) costs) (take a supplies) (take b demands) (take (a * b) ceilings) (take e table)) out out' answer →
    CasePrinted (cut_case m n entries costs supplies demands table) out out' answer
cut_printed m n entries a b e costs supplies demands ceilings table out out' answer ea eb ee ec p =
    let k : take (min m 32 * min n 64) ceilings ≡ replicate {A = ℕ} (min m 32 * min n 64) 4000 = ap (λ (l : List ℕ). take (min m 32 * min n 64) l) ec ∙ cut_ceilings _ (few_lanes m n) in
    rw (← k, sym ea, sym eb, sym ee) p

-- cells with a list stored from the first on, cut to its length
cut_stored : {A : Type 0} (l cells : List A) (k : ℕ) → length l ≡ k → k ≤ length cells → take k (sets cells 0 l) ≡ l
cut_stored l cells k e h = rw (sets-eq l cells 0 (omega arith)) (take_at l (drop (0 + length l) cells) k e)

-- what is printed of a case is printed of one that is alike
carry : (c c' : Case) (m n : ℕ) (out out' : List ℕ) (answer : Printed) → Alike c c' → OutcomePrinted c (outcome_of c) m n out out' answer → OutcomePrinted c' (outcome_of c') m n out out' answer
carry c c' m n out out' answer a p = record {
  refusal = λ number place h. p.refusal number place (a.same ∙ h);
  plan = λ s t f k h. subst (λ (x : Case). PlanPrinted x s t out out' answer) (a.one s t f k h) (p.plan s t f k (a.same ∙ h));
}

module _ (t p : List ℕ) (costs : List ℤ) (supplies demands table : List ℕ) (costs' : List ℤ) (supplies' demands' table' : List ℕ)
    (room : Stored costs supplies demands table) (m n entries : ℕ) {answer : CaseAnswer}
    (told : answer ≡ counts m n entries) (stored : CaseStored t p costs supplies demands table costs' supplies' demands' table' answer) where
  module _ (b : BothStand t p m n entries) where
    -- the case of the files, with its counts
    full : Case
    full = filed_case m n (costs_in b.rs) (supplies_in b.rs) (demands_in b.rs) (replicate (m * n) 4000) (entries_in b.qs)

    file_case_lem : file_case t p ≡ full
    unfolding file_case case_of full
    file_case_lem = rw (b.tariff, b.production, b.sources, b.terminals) refl

    -- within the limits only the table can be cut
    module _ (h : Limits m n) where
      held : TariffStored b.rs costs supplies demands costs' supplies' demands'
      held = stored.tariff_stored b.rs m n entries b.tariff told h.sources h.terminals

      em : min m 32 ≡ m
      em = min-eq_left h.sources

      en : min n 64 ≡ n
      en = min-eq_left h.terminals

      held_costs : take (min m 32 * min n 64) costs' ≡ costs_in b.rs
      held_costs = rw (em, en, held.costs_stored) (cut_stored (costs_in b.rs) costs (m * n) b.costs_long (omega (arith, lanes h, room.lanes)))

      held_supplies : take (min m 32) supplies' ≡ supplies_in b.rs
      held_supplies = rw (em, held.supplies_stored) (cut_stored (supplies_in b.rs) supplies m b.supplies_long (omega (arith, h.sources, room.sources)))

      held_demands : take (min n 64) demands' ≡ demands_in b.rs
      held_demands = rw (en, held.demands_stored) (cut_stored (demands_in b.rs) demands n b.demands_long (omega (arith, h.terminals, room.terminals)))

      held_table : table' ≡ sets table 0 (take 4002 (entries_in b.qs))
      held_table = stored.table_stored b.qs m n entries b.production told

      cut_table : Case
      cut_table = filed_case m n (costs_in b.rs) (supplies_in b.rs) (demands_in b.rs) (replicate (m * n) 4000) (take (min entries 4002) table')

      cut_is : cut_case m n entries costs' supplies' demands' table' ≡ cut_table
      unfolding cut_table
      cut_is = rw (held_costs, held_supplies, held_demands, em, en) refl

      short_table : entries ≤ 4002 → cut_table ≡ full
      unfolding cut_table full
      short_table k =
          let all : take 4002 (entries_in b.qs) ≡ entries_in b.qs = take_all 4002 (entries_in b.qs) (omega (arith, b.table_long)) in
          let e : take (min entries 4002) table' ≡
          entries_in b.qs = rw (min-eq_left k, held_table, all) (cut_stored (entries_in b.qs) table entries b.table_long (omega (arith, room.entries))) in
          rw e refl

      long_table : 4002 < entries → Alike cut_table full
      unfolding cut_table full
      long_table k =
          let e : length (take (min entries 4002) table') ≡
          min entries 4002 = length-take-le (min entries 4002) table' (omega (arith, ap length held_table, length-sets table 0 (take 4002 (entries_in b.qs)), room.entries)) in
          alike_long m n (costs_in b.rs) (supplies_in b.rs) (demands_in b.rs) (take (min entries 4002) table') (entries_in b.qs) h
          b.costs_long b.supplies_long b.demands_long (omega arith) (omega (arith, b.table_long))

      alike_within : Alike (cut_case m n entries costs' supplies' demands' table') full
      alike_within = rw cut_is (elim (dec_lt 4002 entries) [ yes k ↦ long_table k | no k ↦ alike_equal cut_table full (short_table (omega arith)) ])

    alike_cut : Alike (cut_case m n entries costs' supplies' demands' table') full
    unfolding full
    alike_cut = go (checked_of m n) refl
      where
        go : (x : Result Size Cause) → checked_of m n ≡ x → Alike (cut_case m n entries costs' supplies' demands' table') full
        go (Ok z) e = alike_within (in_limits m n z e)
        go (Err k) e = alike_refused _ _ (refused (number_of k) 0) (by_size _ k e) (by_size _ k e)

  -- the stored case, cut to what it has, and the case of the two files
  pub cut_alike : Alike (cut_case m n entries costs' supplies' demands' table') (file_case t p)
  cut_alike =
      let b = both_stand t p m n entries (sym stored.answered ∙ told) in
      rw (file_case_lem b) (alike_cut b)

  -- a case is read
  pub case_files :
      {out out' : List ℕ} {r : Printed} →
      CasePrinted (cut_case m n entries costs' supplies' demands' table') out out' r →
      FilesPrinted t p out out' r
  unfolding file_outcome
  case_files {out} {out'} {r} q =
      let e : case_answer t p ≡ counts m n entries = sym stored.answered ∙ told in
      let b = both_stand t p m n entries e in
      rw (e, file_case_lem b) (carry _ (full b) m n out out' r (alike_cut b) q)

-- a file is refused
pub refused_files :
    (t p : List ℕ) (costs : List ℤ) (supplies demands table : List ℕ) (costs' : List ℤ) (supplies' demands' table' : List ℕ) {why : Refusal} {answer : CaseAnswer} →
    answer ≡ Err why →
    CaseStored t p costs supplies demands table costs' supplies' demands' table' answer → {number : ℕ} → number ≡ number_of why.cause → {out out' : List ℕ} {r : Printed} →
    Told number why.place 0 0 (refusal_text number why.place) out out' r → FilesPrinted t p out out' r
unfolding file_outcome
refused_files t p costs supplies demands table costs' supplies' demands' table' {why} told stored k printed =
    let e : case_answer t p ≡ Err why = sym stored.answered ∙ told in
    rw e (printed_refusal (file_case t p) (refused (number_of why.cause) why.place) refl (rw k at printed))
