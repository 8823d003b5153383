-- W-213's sentence: any accepted pair of files, read and written, comes out as the two texts of its case, and read again it is that case; a pair that
-- is not accepted is refused as planning refuses it. Assumes nothing.
use mathlib.Core.Path.{◌≡◌, refl, ap, sym, ◌∙◌}
use mathlib.Core.Option.{Option, none}
use mathlib.Core.List.{List, ◌++◌}
use Prim.Native.Nat.{ℕ, ◌+◌, ◌≤◌}
use native.Mathlib.Omega.{arith}
use lib.IntN.{ℤ}
use lib.ListN.{length, drop}
use lib.Seq.{sets, sets-eq}
use Rattle.std.proofs.Common.{Ok, Err}
use Rattle.problem.specs.Outcome.{Outcome, planned, refused}
use Rattle.problem.specs.Case.{Case}
use Rattle.planner.specs.Judge.{case_refusal}
use Rattle.problem.proofs.RefusalNumbers.{planned_passes}
use Rattle.csv_case.specs.CaseFiles.{CaseAnswer, case_answer}
use Rattle.plan_files.specs.Printed.{file_case, outcome_for, file_outcome}
use Rattle.case_texts.specs.Texts.{tariff_text, production_text}
use Rattle.write_case.specs.declared.Texts.{Texts}
use Rattle.write_case.specs.declared.Texts.TheVariants as answers
use Rattle.write_case.specs.Writing.{write_refusal, refusal, file_refusal, unless_refused, FilesRewritten}
use Rattle.write_case.proofs.RoundTrip.{tariff_short, production_short}
use Rattle.write_case.proofs.OneForm.{accepted_passes, read_passes, read_again, read_written, same_refusal}

-- the files come out as the two texts of the case c, later bytes as they were, and read again they are c
pub record InOneForm (c : Case) (tariff production tariff' production' : List ℕ) (answer : Texts) : Type 0 where
  pub answered : answer ≡ answers.Written (length (tariff_text c)) (length (production_text c))
  pub tariff_bytes : tariff' ≡ tariff_text c ++ drop (length (tariff_text c)) tariff
  pub production_bytes : production' ≡ production_text c ++ drop (length (production_text c)) production
  pub reads : file_case (tariff_text c) (production_text c) ≡ c

-- what two files are answered when they are planned decides what they are answered here
pub record RewrittenAs (t p tariff production tariff' production' : List ℕ) (answer : Texts) : Type 0 where
  pub accepted : (split : ℕ) (total freight : ℤ) (stops : ℕ) → file_outcome t p ≡ planned split total freight stops → InOneForm (file_case t p) tariff production tariff' production' answer
  pub refusals : (number place : ℕ) → answer ≡ answers.Refused number place → file_outcome t p ≡ refused number place

module _ (t p tariff production tariff' production' : List ℕ) (answer : Texts) (long : 65536 ≤ length tariff) (long' : 65536 ≤ length production)
    (w : FilesRewritten t p tariff production tariff' production' answer) where
  abbrev o : Option Outcome
  o = file_refusal (case_answer t p) (write_refusal (file_case t p) (length tariff) (length production))

  -- the texts are written where nothing refuses
  written : o ≡ none → case_refusal (file_case t p) ≡ none → InOneForm (file_case t p) tariff production tariff' production' answer
  written e passes =
      let c = file_case t p in
      let tested = read_passes t p passes in
      record {
        answered = by answer (w.refusal_told ∙ e) w.lengths_told;
        tariff_bytes = w.tariff_cells ∙ ap (λ (x : Option Outcome). unless_refused x (tariff_text c) tariff) e ∙ front (tariff_text c) tariff (omega (arith, tariff_short c tested));
        production_bytes =
            w.production_cells ∙ ap (λ (x : Option Outcome). unless_refused x (production_text c) production) e ∙ front (production_text c) production (omega (arith, production_short c tested));
        reads = read_again t p passes;
      }
    where
      by : (a : Texts) → refusal a ≡ none → ((i j : ℕ) → a ≡ answers.Written i j → (i ≡ length (tariff_text (file_case t p))) × (j ≡ length (production_text (file_case t p)))) →
          a ≡ answers.Written (length (tariff_text (file_case t p))) (length (production_text (file_case t p)))
      by (answers.Written i j) e l = let k = l i j refl in let ei = k.0 in let ej = k.1 in cc
      by (answers.Refused number place) e l = absurd (let z : ◌≡◌ {A = ℕ} 0 1 = cc in omega arith)

      front : (text out : List ℕ) → length text ≤ length out → sets out 0 text ≡ text ++ drop (length text) out
      front text out h = sets-eq text out 0 (omega arith) ∙ ap (λ (k : ℕ). text ++ drop k out) (let z : 0 + length text ≡ length text = omega arith in z)

  pub accepted_files : RewrittenAs t p tariff production tariff' production' answer
  unfolding file_outcome
  accepted_files = record {
    accepted = λ split total freight stops e. go (case_answer t p) refl e;
    refusals = λ number place e. same_refusal t p (length tariff) (length production) long long' (refused number place) (sym w.refusal_told ∙ ap refusal e);
  }
    where
      go : {split : ℕ} {total freight : ℤ} {stops : ℕ} (a : CaseAnswer) → case_answer t p ≡ a → outcome_for a (file_case t p) ≡ planned split total freight stops →
          InOneForm (file_case t p) tariff production tariff' production' answer
      go (Err why) k e = absurd (let z : ◌≡◌ {A = ℕ} 0 1 = cc in omega arith)
      go {split} {total} {freight} {stops} (Ok shape) k e =
          let passes = accepted_passes (file_case t p) (planned_passes (file_case t p) split total freight stops e) in
          let none' : o ≡ none = ap (λ (x : CaseAnswer). file_refusal x (write_refusal (file_case t p) (length tariff) (length production))) k ∙
          read_written t p (length tariff) (length production) long long' passes in
          written none' passes
