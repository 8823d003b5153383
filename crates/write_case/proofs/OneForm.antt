-- Any accepted pair of files read and written comes out in one form, and what was written is read again. Assumes nothing.
use mathlib.Core.Path.{◌≡◌, refl, ap, sym, ◌∙◌}
use mathlib.Core.Option.{Option, none, some}
use mathlib.Core.List.{List, ◌++◌}
use Prim.Native.Nat.{ℕ, ◌+◌, ◌≤◌, ◌<◌}
use native.Mathlib.Omega.{arith}
use borrow.Author.Tests.{le-ltb, ltb-false}
use lib.Dec.{ltb}
use lib.ListN.{length, get_or, take, drop}
use lib.Seq.{sets, sets-eq, take_at, drop_at}
use Rattle.std.proofs.Common.{Ok, Err}
use Rattle.problem.specs.Case.{Case}
use Rattle.problem.specs.Outcome.{Outcome, ◌or_else◌, form_refusal, refusal_of, outcome_of, test7, test8, test27, test9, test11}
use Rattle.planner.specs.Judge.{case_refusal}
use Rattle.problem.proofs.FirstFailing.{first_none}
use Rattle.problem.proofs.TestsPassed.{some≢none, first_passes, second_passes, first_decides, second_decides, refuse_if_none, either_first, either_second, accepted}
use Rattle.problem.proofs.TestParts.{no_place}
use Rattle.problem.proofs.Promise.{refused_outcome}
use Rattle.csv_form.specs.declared.Kind.TheVariants.{Production}
use Rattle.csv_form.specs.Records.{Form, whole, broken, form_of}
use Rattle.csv_table.specs.Files.{in_order}
use Rattle.csv_case.specs.CaseFiles.{CaseAnswer, entries_in, case_answer, records_of}
use Rattle.plan_files.specs.Printed.{case_of, file_case, outcome_for, file_outcome}
use Rattle.write_case.specs.declared.Texts.TheVariants as answers
use Rattle.case_texts.specs.Texts.{tariff_text, production_text}
use Rattle.write_case.specs.Writing.{test32, test33, entries_refusal, write_refusal, file_refusal, unless_refused, CaseWritten}
use Rattle.case_texts.proofs.FileNumbers.{sizes_at, all_in_order, form_small}
use Rattle.write_case.proofs.RoundTrip.{case_alone, tariff_short, production_short, round_trip}
use Rattle.write_case.proofs.WriterParts.{entries_form, write_tested, write_room}

-- a case that the planner accepts passes tests 1 to 9
pub accepted_passes : (c : Case) → refusal_of c ≡ none → case_refusal c ≡ none
unfolding case_refusal
accepted_passes c e =
    let a = accepted c e in
    second_decides (form_refusal c) _ a.form ∙ second_decides (test7 c) _ a.t7 ∙ second_decides (test8 c) _ a.t8 ∙ second_decides (test27 c) _ a.t27 ∙ a.t9

module _ (t p : List ℕ) where
  -- no entry of a file is too long for a field
  entry_held : (y : ℕ) → y < length (entries_in (records_of (form_of Production p))) → get_or (entries_in (records_of (form_of Production p))) y 0 ≤ 9999999999
  unfolding entries_in in_order
  entry_held = go (form_of Production p) refl
    where
      go : (f : Form) → form_of Production p ≡ f → (y : ℕ) → y < length (entries_in (records_of f)) → get_or (entries_in (records_of f)) y 0 ≤ 9999999999
      go (whole qs) e y h = sizes_at (in_order qs) (all_in_order qs (form_small Production p qs e)) y h
      go (broken place) e y h = absurd (omega arith)

  -- so refusal 32 is never met by a case that was read
  pub never_32 : test32 (file_case t p) ≡ none
  unfolding test32 file_case case_of
  never_32 = no_place 32 _ (first_none _ 0 _ (λ y a h. le-ltb 9999999999 _ (entry_held y (omega arith))))

  -- a case that was read and passes tests 1 to 9 can be written
  pub read_passes : case_refusal (file_case t p) ≡ none → entries_refusal (file_case t p) ≡ none
  unfolding entries_refusal
  read_passes e = second_decides (case_refusal (file_case t p)) (test32 (file_case t p)) e ∙ never_32

  same_cells : case_alone (file_case t p) ≡ file_case t p
  unfolding file_case case_of
  same_cells = refl

  -- read, written and read again, it is the same case
  pub read_again : case_refusal (file_case t p) ≡ none → file_case (tariff_text (file_case t p)) (production_text (file_case t p)) ≡ file_case t p
  read_again e = round_trip (file_case t p) (read_passes e) ∙ same_cells

or_assoc : (a b d : Option Outcome) → ((a or_else b) or_else d) ≡ (a or_else (b or_else d))
unfolding ◌or_else◌
or_assoc none b d = refl
or_assoc (some r) b d = refl

-- what tests 1 to 9 refuse, the planner refuses alike
case_refuses : (c : Case) (r : Outcome) → case_refusal c ≡ some r → refusal_of c ≡ some r
unfolding case_refusal refusal_of
case_refuses c r e =
    let a = ap (λ (o : Option Outcome). form_refusal c or_else test7 c or_else test8 c or_else o) (sym (or_assoc (test27 c) (test9 c) (test11 c))) in
    let b = ap (λ (o : Option Outcome). form_refusal c or_else test7 c or_else o) (sym (or_assoc (test8 c) (test27 c or_else test9 c) (test11 c))) in
    let d = ap (λ (o : Option Outcome). form_refusal c or_else o) (sym (or_assoc (test7 c) (test8 c or_else test27 c or_else test9 c) (test11 c))) in
    a ∙ b ∙ d ∙ sym (or_assoc (form_refusal c) (test7 c or_else test8 c or_else test27 c or_else test9 c) (test11 c)) ∙ first_decides _ (test11 c) r e

module _ (t p : List ℕ) (k l : ℕ) (long : 65536 ≤ k) (long' : 65536 ≤ l) where
  -- a case that was read and passes tests 1 to 9 is written into slices as long as a file may be
  pub read_written : case_refusal (file_case t p) ≡ none → write_refusal (file_case t p) k l ≡ none
  read_written e =
      let q = read_passes t p e in
      write_room (file_case t p) k l q (omega (arith, tariff_short (file_case t p) q)) (omega (arith, production_short (file_case t p) q))

  -- what refuses two files here is what they are answered when they are planned
  pub same_refusal : (r : Outcome) → file_refusal (case_answer t p) (write_refusal (file_case t p) k l) ≡ some r → file_outcome t p ≡ r
  unfolding file_outcome
  same_refusal r = go (case_answer t p)
    where
      by : (o : Option Outcome) → case_refusal (file_case t p) ≡ o → write_refusal (file_case t p) k l ≡ some r → outcome_of (file_case t p) ≡ r
      by none e h = absurd (some≢none r (sym h ∙ read_written e))
      by (some r') e h =
          let w = write_tested (file_case t p) k l r' (entries_form (file_case t p) r' e) in
          let z : r' ≡ r = cc in
          refused_outcome (file_case t p) r (case_refuses (file_case t p) r (e ∙ ap some z))

      go : (a : CaseAnswer) → file_refusal a (write_refusal (file_case t p) k l) ≡ some r → outcome_for a (file_case t p) ≡ r
      go (Err why) h = cc
      go (Ok shape) h = by (case_refusal (file_case t p)) refl h

-- two pairs of files that are one case come out as the same bytes
pub one_form :
    (t p t' p' : List ℕ) → file_case t p ≡ file_case t' p' →
    (tariff_text (file_case t p) ≡ tariff_text (file_case t' p')) × (production_text (file_case t p) ≡ production_text (file_case t' p'))
one_form t p t' p' e = (ap (λ (c : Case). tariff_text c) e, ap (λ (c : Case). production_text c) e)

-- the bytes written, those after them, and the case that they are
pub record ReadsBack (c : Case) (t p : ℕ) (tariff production tariff' production' : List ℕ) : Type 0 where
  pub tariff_bytes : take t tariff' ≡ tariff_text c
  pub production_bytes : take p production' ≡ production_text c
  pub tariff_later : drop t tariff' ≡ drop t tariff
  pub production_later : drop p production' ≡ drop p production
  pub reads : file_case (take t tariff') (take p production') ≡ case_alone c

front : (text out out' : List ℕ) (n : ℕ) → n ≡ length text → length text ≤ length out → out' ≡ sets out 0 text → (take n out' ≡ text) × (drop n out' ≡ drop n out)
front text out out' n en h e =
    let s : out' ≡ text ++ drop (0 + length text) out = e ∙ sets-eq text out 0 (omega arith) in
    let z : 0 + length text ≡ n = omega arith in (
      ap (λ (l : List ℕ). take n l) s ∙ take_at text _ n (sym en),
      ap (λ (l : List ℕ). drop n l) s ∙ drop_at text _ n (sym en) ∙ ap (λ (k : ℕ). drop k out) z,
    )

module _ (c : Case) (tariff production tariff' production' : List ℕ) (t p : ℕ) (w : CaseWritten c tariff production tariff' production' (answers.Written t p)) where
  no_refusal : write_refusal c (length tariff) (length production) ≡ none
  no_refusal = sym w.refusal_told

  tested : entries_refusal c ≡ none
  unfolding write_refusal
  tested = first_passes (entries_refusal c) (test33 c (length tariff) (length production)) no_refusal

  room : (length (tariff_text c) ≤ length tariff) × (length (production_text c) ≤ length production)
  unfolding write_refusal test33
  room =
      let a = ltb (length tariff) (length (tariff_text c)) in
      let b = ltb (length production) (length (production_text c)) in
      let e = refuse_if_none 33 _ (second_passes (entries_refusal c) (test33 c (length tariff) (length production)) no_refusal) in
      (ltb-false _ _ (either_first a b e), ltb-false _ _ (either_second a b e))

  pub reads_back : ReadsBack c t p tariff production tariff' production'
  reads_back =
      let l = w.lengths_told t p refl in
      let ct : tariff' ≡ sets tariff 0 (tariff_text c) = w.tariff_cells ∙ ap (λ (o : Option Outcome). unless_refused o (tariff_text c) tariff) no_refusal in
      let cp : production' ≡ sets production 0 (production_text c) = w.production_cells ∙ ap (λ (o : Option Outcome). unless_refused o (production_text c) production) no_refusal in
      let ft = front (tariff_text c) tariff tariff' t l.0 room.0 ct in
      let fp = front (production_text c) production production' p l.1 room.1 cp in
      record {
        tariff_bytes = ft.0;
        production_bytes = fp.0;
        tariff_later = ft.1;
        production_later = fp.1;
        reads = rw (ft.0, fp.0) (round_trip c tested);
      }
