-- Two files read and written again: the case that is stored on the way is answered as the case of the files. Assumes nothing.
use mathlib.Core.Path.{◌≡◌, refl, ap, sym, ◌∙◌, subst}
use mathlib.Core.Logic.{◌⊎◌, inl, inr}
use mathlib.Core.Option.{some}
use mathlib.Core.List.{List}
use Prim.Native.Nat.{ℕ, min, ◌*◌}
use native.Mathlib.Nat.{min-eq_left}
use native.Mathlib.Omega.{arith}
use lib.IntN.{ℤ}
use lib.ListN.{length, take}
use Rattle.std.proofs.Common.{Result, Ok, Err}
use Rattle.refusal.specs.declared.Cause.{Cause}
use Rattle.refusal.specs.declared.Refusal.{Refusal}
use Rattle.refusal.specs.Number.{number_of}
use Rattle.size.specs.declared.limits.Size.{Size}
use Rattle.problem.specs.Case.{Case}
use Rattle.problem.specs.Outcome.{Outcome, refused, form_refusal}
use Rattle.size.specs.Size.{checked_of}
use Rattle.planner.specs.Judge.{free_case}
use Rattle.validation.proofs.FormTests.{Limits, in_limits, by_size}
use Rattle.planner.proofs.Judging.{case_form}
use Rattle.csv_case.specs.CaseFiles.{CaseAnswer, counts, case_answer, CaseStored}
use Rattle.plan_files.specs.Printed.{file_case}
use Rattle.plan_files.specs.inner.StoredCase.{cut_case, Stored}
use Rattle.plan_files.proofs.FileRefusals.{Alike}
use Rattle.plan_files.proofs.StoredCase.{cut_alike}
use Rattle.write_case.specs.declared.Texts.{Texts}
use Rattle.write_case.specs.declared.Texts.TheVariants as texts
use Rattle.write_case.specs.Writing.{write_refusal, CaseWritten, FilesRewritten}
use Rattle.write_case.proofs.WriterParts.{entries_form, write_tested, told_refused}

-- what is told of a case is told of one that the tests before the balance refuse alike
module _ (c c' : Case) (tariff production tariff' production' : List ℕ) (answer : Texts) where
  by_form : (r : Outcome) → form_refusal c ≡ some r → write_refusal c (length tariff) (length production) ≡ some r
  by_form r e = write_tested c (length tariff) (length production) r (entries_form c r (case_form c r e))

  by_form' : (r : Outcome) → form_refusal c' ≡ some r → write_refusal c' (length tariff) (length production) ≡ some r
  by_form' r e = write_tested c' (length tariff) (length production) r (entries_form c' r (case_form c' r e))

  carry : (r : Outcome) → form_refusal c ≡ some r → form_refusal c' ≡ some r → CaseWritten c tariff production tariff' production' answer → CaseWritten c' tariff production tariff' production' answer
  carry r e e' w = told_refused r _ _ _ _ _ _ (by_form r e) (by_form' r e') w

form_alike : (c c' : Case) → Alike c c' → form_refusal c ≡ form_refusal c'
form_alike c c' a = go a.either
  where
    go : (c ≡ c') ⊎ ((r : Outcome) × (form_refusal c ≡ some r) × (form_refusal c' ≡ some r)) → form_refusal c ≡ form_refusal c'
    go (inl e) = ap form_refusal e
    go (inr h) = h.1 ∙ sym h.2

-- a case lent in parts that have these lengths
pub cut_written :
    (m n entries a b e : ℕ) (costs : List ℤ) (supplies demands table : List ℕ) {tariff production tariff' production' : List ℕ} {r : Texts} → a ≡ min m 32 → b ≡ min n 64 → e ≡ min entries 4002 →
    CaseWritten (free_case m n (take (a * b) costs) (take a supplies) (take b demands) (take e table) 2048 4001 4001) tariff production tariff' production' r →
    CaseWritten
    (free_case m n (take (min m 32 * min n 64) costs) (take (min m 32) supplies) (take (min n 64) demands) (take (min entries 4002) table) 2048 4001 4001)
    tariff production tariff' production' r
cut_written m n entries a b e costs supplies demands table ea eb ee w = rw (sym ea, sym eb, sym ee) w

module _ (t p : List ℕ) (costs : List ℤ) (supplies demands table : List ℕ) (costs' : List ℤ) (supplies' demands' table' : List ℕ) {answer : CaseAnswer}
    (stored : CaseStored t p costs supplies demands table costs' supplies' demands' table' answer) where
  -- a file is refused
  pub refused_rewritten : {why : Refusal} {tariff production : List ℕ} → answer ≡ Err why → {number : ℕ} → number ≡ number_of why.cause →
      FilesRewritten t p tariff production tariff production (texts.Refused number why.place)
  refused_rewritten {why} e k =
      let a : case_answer t p ≡ Err why = sym stored.answered ∙ e in
      rw (a, k) (record {
        refusal_told = refl;
        lengths_told = λ a b k. absurd (let z : ◌≡◌ {A = ℕ} 0 1 = cc in omega arith);
        tariff_cells = refl;
        production_cells = refl;
      })

  -- a case is read
  module _ (room : Stored costs supplies demands table) (m n entries : ℕ) (told : answer ≡ counts m n entries) where
    abbrev kept : Case
    kept = free_case m n (take (min m 32 * min n 64) costs') (take (min m 32) supplies') (take (min n 64) demands') (take (min entries 4002) table') 2048 4001 4001

    alike : Alike (cut_case m n entries costs' supplies' demands' table') (file_case t p)
    alike = cut_alike t p costs supplies demands table costs' supplies' demands' table' room m n entries told stored

    within : Limits m n → cut_case m n entries costs' supplies' demands' table' ≡ kept
    within h =
        let em : min m 32 ≡ m = min-eq_left h.sources in
        let en : min n 64 ≡ n = min-eq_left h.terminals in
        rw (em, en) refl

    to_file :
        (tariff production tariff' production' : List ℕ) (r : Texts) → CaseWritten kept tariff production tariff' production' r → CaseWritten (file_case t p) tariff production tariff' production' r
    to_file tariff production tariff' production' r w = go (checked_of m n) refl
      where
        by : Limits m n → CaseWritten (file_case t p) tariff production tariff' production' r
        by h =
            let w' = subst (λ (c : Case). CaseWritten c tariff production tariff' production' r) (sym (within h)) w in
            elim alike.either [
              | inl e ↦ subst (λ (c : Case). CaseWritten c tariff production tariff' production' r) e w'
              | inr q ↦ carry _ (file_case t p) tariff production tariff' production' r q.0 q.1 q.2 w'
            ]

        go : (x : Result Size Cause) → checked_of m n ≡ x → CaseWritten (file_case t p) tariff production tariff' production' r
        go (Ok z) e = by (in_limits m n z e)
        go (Err k) e =
            carry kept (file_case t p) tariff production tariff' production' r (refused (number_of k) 0) (by_size kept k e)
            (sym (form_alike _ _ alike) ∙ by_size (cut_case m n entries costs' supplies' demands' table') k e) w

    pub case_rewritten :
        {tariff production tariff' production' : List ℕ} {r : Texts} → CaseWritten kept tariff production tariff' production' r → FilesRewritten t p tariff production tariff' production' r
    case_rewritten {tariff} {production} {tariff'} {production'} {r} w =
        let a : case_answer t p ≡ counts m n entries = sym stored.answered ∙ told in
        rw a (to_file tariff production tariff' production' r w)
