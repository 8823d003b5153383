-- From what `possible_splits` answers of a lent case to what is printed of it, and from the stored case to that of the files. Assumes nothing.
use mathlib.Core.Path.{◌≡◌, refl, sym, ap, ◌∙◌, subst, subst₂}
use mathlib.Core.Bool.{Bool, true, false, cond}
use mathlib.Core.Option.{Option, none, some}
use mathlib.Core.List.{List}
use Prim.Native.Nat.{ℕ, min, ◌+◌, ◌-◌, ◌*◌, ◌≤◌, ◌<◌}
use native.Mathlib.Nat.{min-eq_left}
use native.Mathlib.Decide.{dec_lt}
use native.Mathlib.Omega.{arith}
use borrow.Author.Tests.{ne_eqb}
use lib.Dec.{ltb}
use lib.IntN.{ℤ}
use lib.ListN.{length, get_or, take, drop, replicate, length-map, length-append, get_or-append}
use lib.Seq.{sets, take_at, take_all, sets-eq, length-sets, length-take-le}
use Rattle.transport.specs.Listing.{up_from}
use Rattle.transport.proofs.ListMembers.{up_from_length}
use Rattle.std.proofs.Common.{Ok, Err}
use Rattle.refusal.specs.Number.{number_of}
use Rattle.refusal.specs.declared.Refusal.{Refusal}
use Rattle.csv_print.specs.Text.{refusal_text}
use Rattle.csv_answers.specs.Bounds.{bounds_text, MarksFit}
use Rattle.problem.specs.Case.{Case, supply, least_split}
use Rattle.problem.specs.Outcome.{first_from}
use Rattle.problem.specs.Outcome as planner
use Rattle.plan_files.specs.declared.planned.Printed.{Printed}
use Rattle.csv_case.specs.CaseFiles.{CaseAnswer, counts, case_answer, entries_in, CaseStored, records_of}
use Rattle.csv_case.specs.Entries.{entries_of}
use Rattle.plan_files.specs.Printed.{filed_case, file_case, Told}
use Rattle.plan_files.specs.inner.StoredCase.{cut_case, Stored}
use Rattle.csv_case.proofs.CaseLengths.{both_stand}
use Rattle.plan_files.proofs.FileRefusals.{Alike}
use Rattle.planner.proofs.Judging.{cut_ceilings}
use Rattle.plan_files.proofs.StoredCase.{few_lanes, cut_alike}
use Rattle.bounds_problem.specs.Tables.{Split, after, least_total, mark, marks}
use Rattle.bounds_problem.specs.Answers.{Outcome, known, refused, badEntry, place28, laterOf, outcome_of, Answered}
use Rattle.bounds_problem.proofs.PlannedCase.{Ready, ready}
use Rattle.bounds_files.specs.Bounded.{case_outcome, files_then, files_outcome, BoundsHold, OutcomePrinted, CasePrinted, HighPrinted, FilesPrinted}

-- ---- an outcome

-- a refusal
pub printed_refusal : (c : Case) (high : List ℕ) (o : Outcome) {number place sources terminals : ℕ} {out out' : List ℕ} {answer : Printed}
    → o ≡ refused number place → Told number place sources terminals (refusal_text number place) out out' answer
    → OutcomePrinted c high o sources terminals out out' answer
printed_refusal c high o {number} {place} {sources} {terminals} {out} {out'} {answer} e told = record {
  refusal = λ number' place' h.
      let en : number ≡ number' = cc in
      let ep : place ≡ place' = cc in
      subst (λ (x : ℕ). Told x place' sources terminals (refusal_text x place') out out' answer) en
      (subst (λ (y : ℕ). Told number y sources terminals (refusal_text number y) out out' answer) ep told);
  splits = λ i n s l h. absurd (let z : ◌≡◌ {A = ℕ} 0 1 = cc in omega arith);
  holds = λ i n s l h. absurd (let z : ◌≡◌ {A = ℕ} 0 1 = cc in omega arith);
}

-- the two totals and the marks
printed_known : (c : Case) (high : List ℕ) (o : Outcome) (i n : ℕ) (s l : ℤ) {sources terminals : ℕ} {out out' : List ℕ} {answer : Printed}
    → o ≡ known i n s l → Told 0 0 sources terminals (bounds_text s l i (marks c high)) out out' answer → BoundsHold c high s l
    → OutcomePrinted c high o sources terminals out out' answer
printed_known c high o i n s l {sources} {terminals} {out} {out'} {answer} e told hold = record {
  refusal = λ number place h. absurd (let z : ◌≡◌ {A = ℕ} 0 1 = cc in omega arith);
  splits = λ i' n' s' l' h.
      let ei : i ≡ i' = cc in
      let es : s ≡ s' = cc in
      let el : l ≡ l' = cc in
      subst (λ (x : ℕ). Told 0 0 sources terminals (bounds_text s' l' x (marks c high)) out out' answer) ei
      (subst (λ (x : ℤ). Told 0 0 sources terminals (bounds_text x l' i (marks c high)) out out' answer) es
      (subst (λ (x : ℤ). Told 0 0 sources terminals (bounds_text s x i (marks c high)) out out' answer) el told));
  holds = λ i' n' s' l' h.
      let es : s ≡ s' = cc in
      let el : l ≡ l' = cc in
      subst (λ (x : ℤ). BoundsHold c high x l') es (subst (λ (x : ℤ). BoundsHold c high s x) el hold);
}

-- ---- what a case that is answered has

pub record Splits (c : Case) (high : List ℕ) (i n : ℕ) (s l : ℤ) : Type 0 where
  pub ends : Ready c
  pub good : place28 c high ≡ none
  pub first : least_split c ≡ i
  pub count : after c + 1 ≡ n
  pub smallest : least_total c c.table ≡ s
  pub largest : least_total c high ≡ l

pub split_count : (c : Case) (high : List ℕ) (cells i n : ℕ) (s l : ℤ) → outcome_of c high cells ≡ known i n s l → Splits c high i n s l
unfolding outcome_of laterOf
split_count c high cells i n s l e = step (planner.outcome_of c) refl e
  where
    later : (o : Option ℕ) → place28 c high ≡ o → (b : Bool) → Ready c
        → (let r : Outcome = elim o [ some p ↦ refused 28 p | none ↦ cond b (refused 11 0) (known (least_split c) (after c + 1) (least_total c c.table) (least_total c high)) ] in r) ≡ known i n s l
        → Splits c high i n s l
    later (some p) q b r e = absurd (let z : ◌≡◌ {A = ℕ} 0 1 = cc in omega arith)
    later none q true r e = absurd (let z : ◌≡◌ {A = ℕ} 0 1 = cc in omega arith)
    later none q false r e = record { ends = r; good = q; first = cc; count = cc; smallest = cc; largest = cc }

    step : (o : planner.Outcome) → planner.outcome_of c ≡ o
        → (let r : Outcome = elim o [ planner.refused k p ↦ refused k p | planner.planned s t f k ↦ laterOf c high cells ] in r) ≡ known i n s l → Splits c high i n s l
    step (planner.refused k p) q e = absurd (let z : ◌≡◌ {A = ℕ} 0 1 = cc in omega arith)
    step (planner.planned y t f k) q e = later (place28 c high) refl (ltb cells (after c + 1)) (ready c y t f k q) e

pub marks_long : (c : Case) (high : List ℕ) → length (marks c high) ≡ after c + 1
unfolding marks
marks_long c high = length-map (up_from (least_split c) (after c + 1)) (mark c high) ∙ up_from_length (least_split c) (after c + 1)

-- the answer on a case
module _ {c : Case} {high before cells : List ℕ} {o : Outcome} (a : Answered c high o before cells) where
  module _ {i n : ℕ} {s l : ℤ} (e : o ≡ known i n s l) where
    told : Splits c high i n s l
    told = split_count c high (length before) i n s l (sym a.answer ∙ e)

    -- the first cells are the marks
    cut : take n cells ≡ marks c high
    cut =
        ap (λ (m : List ℕ). take n m) (a.given i n s l e).marked
        ∙ take_at (marks c high) (drop (length (marks c high)) before) n (marks_long c high ∙ told.count)

    -- what the printer asks
    pub known_ready : (n ≤ length cells) × MarksFit i (take n cells)
    known_ready = (
      omega (arith, ap length (a.given i n s l e).marked, length-append (marks c high) (drop (length (marks c high)) before), marks_long c high, told.count),
      record {
        start = omega (arith, told.first, told.ends.order, told.ends.last, told.ends.limit);
        few = omega (arith, ap length cut, marks_long c high, told.ends.last, told.ends.limit);
      },
    )

    -- a split's cell is its mark
    marked : (y : ℕ) → Split c y → get_or cells (y - least_split c) 0 ≡ get_or (marks c high) (y - least_split c) 0
    marked y k =
        ap (λ (l : List ℕ). get_or l (y - least_split c) 0) (a.given i n s l e).marked
        ∙ get_or-append (marks c high) (drop (length (marks c high)) before) 0 (y - least_split c) (omega (arith, marks_long c high, k.from, k.to))

    hold : BoundsHold c high s l
    hold =
        let g = a.given i n s l e in
        record {
          yes = λ y k m. g.yes y k (marked y k ∙ m);
          no = λ y k m. g.no y k (marked y k ∙ m);
          smallest = g.smallest;
          largest = g.largest;
        }

    pub by_known : length before ≡ 4001 → {out out' : List ℕ} {answer : Printed}
        → Told 0 0 c.m c.n (bounds_text s l i (take n cells)) out out' answer → CasePrinted c high out out' answer
    by_known r told =
        printed_known c high (case_outcome c high) i n s l (sym (ap (outcome_of c high) r) ∙ (sym a.answer ∙ e)) (rw cut at told) hold

  pub by_refusal : {number place : ℕ} → o ≡ refused number place → length before ≡ 4001 → {out out' : List ℕ} {answer : Printed}
      → Told number place c.m c.n (refusal_text number place) out out' answer → CasePrinted c high out out' answer
  by_refusal e r told = printed_refusal c high (case_outcome c high) (sym (ap (outcome_of c high) r) ∙ (sym a.answer ∙ e)) told

-- ---- two cases that the planner answers alike, and two high tables that are both too long

-- the outcome is the same, and where it is an answer so are the case and the table
record Same (c c' : Case) (h h' : List ℕ) : Type 0 where
  outcomes : case_outcome c h ≡ case_outcome c' h'
  one : (i n : ℕ) (s l : ℤ) → case_outcome c' h' ≡ known i n s l → (c ≡ c') × (h ≡ h')

-- the planner's refusal is handed on
handed_on_lem : (c : Case) (h : List ℕ) (k p : ℕ) → planner.outcome_of c ≡ planner.refused k p → case_outcome c h ≡ refused k p
unfolding outcome_of
handed_on_lem c h k p e = ap (λ (o : planner.Outcome). elim o [ planner.refused k p ↦ refused k p | planner.planned s t f k ↦ laterOf c h 4001 ]) e

same_case : {c c' : Case} (h : List ℕ) → Alike c c' → Same c c' h h
same_case {c} {c'} h a = step (planner.outcome_of c') refl
  where
    step : (o : planner.Outcome) → planner.outcome_of c' ≡ o → Same c c' h h
    step (planner.planned y t f k) q = let e = a.one y t f k q in record { outcomes = ap (λ (x : Case). case_outcome x h) e; one = λ i n s l z. (e, refl) }
    step (planner.refused k p) q =
        let e' = handed_on_lem c' h k p q in
        record { outcomes = handed_on_lem c h k p (a.same ∙ q) ∙ sym e'; one = λ i n s l z. absurd (let w : ◌≡◌ {A = ℕ} 0 1 = cc in omega arith) }

-- past the planner's tests a_1 is at most 4,000, so such a table has not a_1 + 1 entries
no_place : (c : Case) (h : List ℕ) → supply c 0 ≤ 4000 → 4001 < length h → place28 c h ≡ some 0
unfolding place28
no_place c h k l =
    ap (λ (b : Bool). cond b (first_from (badEntry c h) (least_split c) (after c + 1)) (some 0)) (ne_eqb (length h) (supply c 0 + 1) (λ e. omega arith))

by_place : (c : Case) (h : List ℕ) (p : ℕ) → place28 c h ≡ some p → laterOf c h 4001 ≡ refused 28 p
unfolding laterOf
by_place c h p e = rw (e, laterOf) refl

too_long : (c : Case) (h : List ℕ) (y : ℕ) (t f : ℤ) (k : ℕ) → planner.outcome_of c ≡ planner.planned y t f k → 4001 < length h → case_outcome c h ≡ refused 28 0
unfolding outcome_of
too_long c h y t f k q l =
    let later : case_outcome c h ≡ laterOf c h 4001 =
    ap (λ (o : planner.Outcome). elim o [ planner.refused k p ↦ refused k p | planner.planned s t f k ↦ laterOf c h 4001 ]) q in
    later ∙ by_place c h 0 (no_place c h (ready c y t f k q).limit l)

same_long : (c : Case) (h h' : List ℕ) → 4001 < length h → 4001 < length h' → Same c c h h'
same_long c h h' l l' = step (planner.outcome_of c) refl
  where
    step : (o : planner.Outcome) → planner.outcome_of c ≡ o → Same c c h h'
    step (planner.planned y t f k) q =
        let e = too_long c h y t f k q l in
        let e' = too_long c h' y t f k q l' in
        record { outcomes = e ∙ sym e'; one = λ i n s l z. absurd (let w : ◌≡◌ {A = ℕ} 0 1 = cc in omega arith) }
    step (planner.refused k p) q =
        let e = handed_on_lem c h k p q in
        let e' = handed_on_lem c h' k p q in
        record { outcomes = e ∙ sym e'; one = λ i n s l z. absurd (let w : ◌≡◌ {A = ℕ} 0 1 = cc in omega arith) }

carry : (c c' : Case) (h h' : List ℕ) {m n : ℕ} {out out' : List ℕ} {answer : Printed} → Same c c' h h'
    → OutcomePrinted c h (case_outcome c h) m n out out' answer → OutcomePrinted c' h' (case_outcome c' h') m n out out' answer
carry c c' h h' {m} {n} {out} {out'} {answer} a p = record {
  refusal = λ number place e. p.refusal number place (a.outcomes ∙ e);
  splits = λ i k s l e.
      let o = a.one i k s l e in
      subst₂ (λ (x : Case) (y : List ℕ). Told 0 0 m n (bounds_text s l i (marks x y)) out out' answer) o.0 o.1 (p.splits i k s l (a.outcomes ∙ e));
  holds = λ i k s l e. let o = a.one i k s l e in subst₂ (λ (x : Case) (y : List ℕ). BoundsHold x y s l) o.0 o.1 (p.holds i k s l (a.outcomes ∙ e));
}

-- ---- the lent parts are the cut case

pub cut_printed :
    (m n entries more a b e f : ℕ) (costs : List ℤ) (supplies demands ceilings low high out out' : List ℕ) (answer : Printed)
    → a ≡ min m 32 → b ≡ min n 64 → e ≡ min entries 4002 → f ≡ min more 4002 → ceilings ≡ replicate {A = ℕ} 2048 4000
    → CasePrinted (filed_case m n (take (a * b) costs) (take a supplies) (take b demands) (take (a * b) ceilings) (take e low)) (take f high) out out' answer
    → CasePrinted (cut_case m n entries costs supplies demands low) (take (min more 4002) high) out out' answer
cut_printed m n entries more a b e f costs supplies demands ceilings low high out out' answer ea eb ee ef ec p =
    let k : take (min m 32 * min n 64) ceilings ≡ replicate {A = ℕ} (min m 32 * min n 64) 4000 = ap (λ (l : List ℕ). take (min m 32 * min n 64) l) ec ∙ cut_ceilings _ (few_lanes m n) in
    rw (← k, sym ea, sym eb, sym ee, sym ef) p

-- ---- the high file

module _ (t h : List ℕ) (spare : List ℤ) (sources terminals highs : List ℕ) (spare' : List ℤ) (sources' terminals' highs' : List ℕ) {answer : CaseAnswer}
    (stored : CaseStored t h spare sources terminals highs spare' sources' terminals' highs' answer) where
  -- it is refused
  pub high_refused : {why : Refusal} → answer ≡ Err why → {number : ℕ} → number ≡ number_of why.cause → (c : Case) {out out' : List ℕ} {r : Printed}
      → Told number why.place c.m c.n (refusal_text number why.place) out out' r → HighPrinted t h c out out' r
  high_refused {why} told k c printed =
      let e : case_answer t h ≡ Err why = sym stored.answered ∙ told in
      rw e (printed_refusal c (entries_of h) (refused (number_of why.cause) why.place) refl (rw k at printed))

  -- its entries are stored
  module _ (room : length highs ≡ 4002) (m n more : ℕ) (told : answer ≡ counts m n more) where
    same_high : (c : Case) → Same c c (take (min more 4002) highs') (entries_of h)
    unfolding entries_of
    same_high c =
        let b = both_stand t h m n more (sym stored.answered ∙ told) in
        let held : highs' ≡ sets highs 0 (take 4002 (entries_in b.qs)) = stored.table_stored b.qs m n more b.production told in
        let is : entries_of h ≡ entries_in b.qs = ap (λ f. entries_in (records_of f)) b.production in
        elim (dec_lt 4002 more) [
          | yes l ↦
              let long : length (take (min more 4002) highs') ≡ min more 4002 =
              length-take-le (min more 4002) highs' (omega (arith, ap length held, length-sets highs 0 (take 4002 (entries_in b.qs)))) in
              same_long c (take (min more 4002) highs') (entries_of h) (omega arith) (omega (arith, ap length is, b.table_long))
          | no l ↦
              let all : take 4002 (entries_in b.qs) ≡ entries_in b.qs = take_all 4002 (entries_in b.qs) (omega (arith, b.table_long)) in
              let e : take (min more 4002) highs' ≡ entries_of h =
              rw (min-eq_left {n = more} {m = 4002} (omega arith), held, all, is, sets-eq (entries_in b.qs) highs 0 (omega (arith, b.table_long)))
              (take_at (entries_in b.qs) (drop (0 + length (entries_in b.qs)) highs) more b.table_long) in
              record { outcomes = ap (λ (x : List ℕ). case_outcome c x) e; one = λ i n s l z. (refl, e) }
        ]

    pub high_stored : (c : Case) {out out' : List ℕ} {r : Printed} → CasePrinted c (take (min more 4002) highs') out out' r → HighPrinted t h c out out' r
    high_stored c printed =
        let e : case_answer t h ≡ counts m n more = sym stored.answered ∙ told in
        rw e (carry c c (take (min more 4002) highs') (entries_of h) (same_high c) printed)

-- ---- the tariff and the low file

module _ (t l h : List ℕ) (costs : List ℤ) (supplies demands table : List ℕ) (costs' : List ℤ) (supplies' demands' table' : List ℕ) {answer : CaseAnswer}
    (stored : CaseStored t l costs supplies demands table costs' supplies' demands' table' answer) where
  pub refused_files : {why : Refusal} → answer ≡ Err why → {number : ℕ} → number ≡ number_of why.cause → {out out' : List ℕ} {r : Printed}
      → Told number why.place 0 0 (refusal_text number why.place) out out' r → FilesPrinted t l h out out' r
  unfolding files_outcome
  refused_files {why} told k printed =
      let e : case_answer t l ≡ Err why = sym stored.answered ∙ told in
      rw e (printed_refusal (file_case t l) (entries_of h) (refused (number_of why.cause) why.place) refl (rw k at printed))

  pub case_files : (room : Stored costs supplies demands table) (m n entries : ℕ) → answer ≡ counts m n entries → {out out' : List ℕ} {r : Printed}
      → HighPrinted t h (cut_case m n entries costs' supplies' demands' table') out out' r → FilesPrinted t l h out out' r
  unfolding files_outcome
  case_files room m n entries told {out} {out'} {r} printed =
      let e : case_answer t l ≡ counts m n entries = sym stored.answered ∙ told in
      let a = cut_alike t l costs supplies demands table costs' supplies' demands' table' room m n entries told stored in
      rw e (step a (case_answer t h) printed)
    where
      step : Alike (cut_case m n entries costs' supplies' demands' table') (file_case t l) → (x : CaseAnswer)
          → OutcomePrinted (cut_case m n entries costs' supplies' demands' table') (entries_of h)
          (files_then x (case_outcome (cut_case m n entries costs' supplies' demands' table') (entries_of h))) m n out out' r
          → OutcomePrinted (file_case t l) (entries_of h) (files_then x (case_outcome (file_case t l) (entries_of h))) m n out out' r
      step a (Ok k) p = carry (cut_case m n entries costs' supplies' demands' table') (file_case t l) (entries_of h) (entries_of h) (same_case (entries_of h) a) p
      step a (Err q) p = printed_refusal (file_case t l) (entries_of h) (refused (number_of q.cause) q.place) refl (p.refusal (number_of q.cause) q.place refl)
