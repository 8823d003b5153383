-- The text that is printed of three files has at most 172,286 bytes. Assumes nothing.
use mathlib.Core.Path.{◌≡◌, refl, ap, subst}
use mathlib.Core.Bool.{Bool, true, false, cond}
use mathlib.Core.Option.{none, some}
use mathlib.Core.List.{List, [], ◌∷◌, ◌++◌, map}
use Prim.Native.Nat.{ℕ, zero, suc, ◌+◌, ◌*◌, ◌≤◌, ◌<◌, ◌^◌}
use native.Mathlib.Nat.{mul-suc}
use native.Mathlib.Omega.{arith}
use borrow.Author.Tests.{ltb-false}
use lib.Dec.{eqb, ltb}
use lib.IntN.{ℤ, pos, negsuc, sub_ℕ, nat_abs}
use lib.Signed.{le_z}
use lib.ListN.{length, get_or, length-append}
use Rattle.transport.specs.Listing.{up_from}
use Rattle.transport.proofs.Differences.{by_sign}
use Rattle.csv_print.specs.Text.{signed_text, field_text, record_text, each, refusal_header, refusal_text}
use Rattle.csv_print.proofs.DecimalTexts.{decimal_short, decimal_below}
use Rattle.csv_answers.specs.Bounds.{totals_header, splits_header, marks_text, bounds_text}
use Rattle.problem.specs.Integer.{minℤ}
use Rattle.problem.specs.Case.{Case, supply, entry, least_split}
use Rattle.problem.specs.Plans.{least_freight_at}
use Rattle.problem.specs.Outcome.{first_from}
use Rattle.problem.proofs.FirstFailing.{none_passes}
use Rattle.problem.proofs.Integers.{above_pos}
use Rattle.problem.proofs.TestsPassed.{either_second}
use Rattle.std.proofs.Common.{Ok, Err}
use Rattle.csv_case.specs.CaseFiles.{CaseAnswer, case_answer}
use Rattle.csv_case.specs.Entries.{entries_of}
use Rattle.plan_files.specs.declared.planned.Printed.{Printed}
use Rattle.plan_files.specs.Printed.{file_case}
use Rattle.bounds_problem.specs.Tables.{Split, after, total_with, least_over, least_total, can_be, mark, marks}
use Rattle.bounds_problem.specs.Answers.{Outcome, known, refused, badEntry, place28}
use Rattle.bounds_problem.specs.inner.Heights.{height}
use Rattle.bounds_problem.proofs.PlannedCase.{Ready}
use Rattle.bounds_files.specs.Bounded.{case_outcome, files_then, files_outcome, FilesPrinted}
use Rattle.bounds_files.proofs.BoundsPrinting.{split_count, marks_long}

-- ---- texts

-- an integer that a machine holds
abbrev Held : ℤ → Type 0
Held z = nat_abs z < 2 ^ 63

signed_most : (z : ℤ) → Held z → length (signed_text z) ≤ 20
unfolding signed_text
signed_most (pos n) h = omega (arith, decimal_below n (omega arith))
signed_most (negsuc n) h = omega (arith, decimal_below (suc n) (omega arith))

-- a record of two texts of at most 20 bytes
record-most : (v w : ℤ) → length (signed_text v) ≤ 20 → length (signed_text w) ≤ 20 → length (record_text (v ∷ w ∷ [])) ≤ 43
unfolding record_text field_text
record-most v w h k =
    omega (
      arith,
      length-append (signed_text v ++ (44 ∷ [])) ((signed_text w ++ (13 ∷ [])) ++ (10 ∷ [])),
      length-append (signed_text v) (44 ∷ []),
      length-append (signed_text w ++ (13 ∷ [])) (10 ∷ []),
      length-append (signed_text w) (13 ∷ []),
    )

refusal_most : (number place : ℕ) → number < 2 ^ 64 → place < 2 ^ 64 → length (refusal_text number place) ≤ 58
unfolding refusal_text refusal_header signed_text
refusal_most number place h k =
    omega (
      arith,
      length-append refusal_header (record_text (pos number ∷ pos place ∷ [])),
      record-most (pos number) (pos place) (decimal_short number h) (decimal_short place k),
    )

marks_most : (first : ℕ) (l : List ℕ) (k : ℕ) → first + k < 2 ^ 63 → ((j : ℕ) → get_or l j 0 ≤ 1) → length (marks_text first l k) ≤ 43 * k
unfolding marks_text each
marks_most first l zero h one = omega arith
marks_most first l (suc k) h one =
    omega (
      arith,
      length-append (each k (λ j. record_text (pos (first + j) ∷ pos (get_or l j 0) ∷ []))) (record_text (pos (first + k) ∷ pos (get_or l k 0) ∷ [])),
      marks_most first l k (omega arith) one,
      record-most (pos (first + k)) (pos (get_or l k 0)) (signed_most (pos (first + k)) (omega arith)) (signed_most (pos (get_or l k 0)) (omega (arith, one k))),
      mul-suc 43 k,
    )

bounds-most : (s l : ℤ) (first : ℕ) (marks : List ℕ) → Held s → Held l → first ≤ 4000 → length marks ≤ 4001 → ((j : ℕ) → get_or marks j 0 ≤ 1) →
    length (bounds_text s l first marks) ≤ 172286
unfolding bounds_text totals_header splits_header
bounds-most s l first marks hs hl start few one =
    omega (
      arith,
      length-append ((totals_header ++ record_text (s ∷ l ∷ [])) ++ splits_header) (marks_text first marks (length marks)),
      length-append (totals_header ++ record_text (s ∷ l ∷ [])) splits_header,
      length-append totals_header (record_text (s ∷ l ∷ [])),
      record-most s l (signed_most s hs) (signed_most l hl),
      marks_most first marks (length marks) (omega arith) one,
    )

-- ---- totals and marks

difference_most : (n k : ℕ) → nat_abs (sub_ℕ n k) ≤ n + k
difference_most n k = by_sign (λ z. nat_abs z ≤ n + k) n k (λ h. omega arith) (λ h. omega arith)

total_held : (c : Case) (t : List ℕ) (y : ℕ) → Ready c → Split c y → get_or t y 0 ≤ 1000000000 → Held (total_with c t y)
unfolding total_with
total_held c t y r i h =
    let m = r.freights y i in
    let a = above_pos (get_or t y 0) m.above in
    omega (arith, ap nat_abs a.is, difference_most (height (least_freight_at c y) + get_or t y 0) 128000000000, m.small)

least_held : (h : ℕ → ℤ) (i k : ℕ) → ((j : ℕ) → j ≤ k → Held (h (i + j))) → Held (least_over h i k)
unfolding least_over minℤ
least_held h i zero f = subst (λ (y : ℕ). Held (h y)) (omega arith) (f 0 (omega arith))
least_held h i (suc k) f =
    pick (le_z (least_over h i k) (h (i + suc k))) (least_over h i k) (h (i + suc k)) (least_held h i k (λ j q. f j (omega arith))) (f (suc k) (omega arith))
  where
    pick : (b : Bool) (z w : ℤ) → Held z → Held w → Held (cond b z w)
    pick true z w p q = p
    pick false z w p q = q

least_total_held : (c : Case) (t : List ℕ) → Ready c → ((y : ℕ) → Split c y → get_or t y 0 ≤ 1000000000) → Held (least_total c t)
unfolding least_total
least_total_held c t r small =
    least_held (total_with c t) (least_split c) (after c)
    (λ j q. let i : Split c (least_split c + j) = record { from = omega arith; to = omega (arith, r.order) } in total_held c t (least_split c + j) r i (small (least_split c + j) i))

-- past 28 no high entry is above 1,000,000,000
high_small : (c : Case) (high : List ℕ) → place28 c high ≡ none → Ready c → (y : ℕ) → Split c y → get_or high y 0 ≤ 1000000000
unfolding place28 badEntry
high_small c high e r y i = by (eqb (length high) (supply c 0 + 1)) e
  where
    by : (b : Bool) → cond b (first_from (badEntry c high) (least_split c) (after c + 1)) (some 0) ≡ none → get_or high y 0 ≤ 1000000000
    by true e =
        ltb-false 1000000000 (get_or high y 0)
        (either_second (ltb (get_or high y 0) (entry c y)) (ltb 1000000000 (get_or high y 0))
        (none_passes (badEntry c high) (least_split c) (after c + 1) e y i.from (omega (arith, i.to, r.order))))
    by false e = absurd (let z : ◌≡◌ {A = ℕ} 0 1 = cc in omega arith)

marks_small : (c : Case) (high : List ℕ) (j : ℕ) → get_or (marks c high) j 0 ≤ 1
unfolding marks mark
marks_small c high j = by (up_from (least_split c) (after c + 1)) j
  where
    one : (b : Bool) → cond b 1 0 ≤ 1
    one true = omega arith
    one false = omega arith

    by : (l : List ℕ) (j : ℕ) → get_or (map (mark c high) l) j 0 ≤ 1
    by [] j = omega arith
    by (y ∷ l) zero = one (can_be c high y)
    by (y ∷ l) (suc j) = by l j

-- ---- the room

-- the outcome of three files that are answered is that of their case
known_case : (t l h : List ℕ) (i n : ℕ) (s v : ℤ) → files_outcome t l h ≡ known i n s v → case_outcome (file_case t l) (entries_of h) ≡ known i n s v
unfolding files_outcome
known_case t l h i n s v e = by (case_answer t l) (case_answer t h) e
  where
    by : (a b : CaseAnswer) → files_then a (files_then b (case_outcome (file_case t l) (entries_of h))) ≡ known i n s v → case_outcome (file_case t l) (entries_of h) ≡ known i n s v
    by (Err k) b e = absurd (let z : ◌≡◌ {A = ℕ} 0 1 = cc in omega arith)
    by (Ok k) (Err q) e = absurd (let z : ◌≡◌ {A = ℕ} 0 1 = cc in omega arith)
    by (Ok k) (Ok j) e = e

-- what `bounds_files` prints has room in 172,286 bytes
pub text_fits : (t l h out out' : List ℕ) (answer : Printed) → FilesPrinted t l h out out' answer → answer.number < 2 ^ 64 → answer.place < 2 ^ 64 → answer.length ≤ 172286
text_fits t l h out out' answer p number_fits place-fits = by (files_outcome t l h) refl
  where
    by : (o : Outcome) → files_outcome t l h ≡ o → answer.length ≤ 172286
    by (refused k q) e =
        let r = p.refusal k q e in
        omega (arith, r.ends, refusal_most k q (omega (arith, r.number_told)) (omega (arith, r.place_told)))
    by (known i n s v) e =
        let c = file_case t l in
        let high = entries_of h in
        let r = split_count c high 4001 i n s v (known_case t l h i n s v e) in
        omega (
          arith,
          (p.splits i n s v e).ends,
          bounds-most s v i (marks c high)
              (subst Held r.smallest (least_total_held c c.table r.ends r.ends.entries))
              (subst Held r.largest (least_total_held c high r.ends (high_small c high r.good r.ends)))
              (omega (arith, r.first, r.ends.order, r.ends.last, r.ends.limit))
              (omega (arith, marks_long c high, r.ends.last, r.ends.limit))
              (marks_small c high),
        )
