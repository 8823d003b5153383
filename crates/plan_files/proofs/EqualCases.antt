-- What is printed is the definition's text, byte by byte; so two pairs of files that are the same case get the same bytes. Assumes nothing.
use mathlib.Core.Path.{◌≡◌, refl, sym, ap, ◌∙◌}
use mathlib.Core.List.{List}
use Prim.Native.Nat.{ℕ}
use lib.ListN.{length}
use lib.Seq.{sets}
use Rattle.problem.specs.Case as planner-case
use Rattle.problem.specs.Outcome.{Outcome, planned, refused, outcome_of}
use Rattle.plan_files.specs.declared.planned.Printed.{Printed}
use Rattle.csv_case.specs.CaseFiles.{CaseAnswer, counts, case_answer}
use Rattle.plan_files.specs.Printed.{file_case, file_outcome, outcome_for, OutcomePrinted, FilesPrinted, outcome_text, files_text}

-- the text of an outcome, and its length
module _ {c : planner-case.Case} {sources terminals : ℕ} {out out' : List ℕ} {answer : Printed} where
  outcome_bytes : (o : Outcome) → OutcomePrinted c o sources terminals out out' answer → out' ≡ sets out 0 (outcome_text c o)
  unfolding outcome_text
  outcome_bytes (planned s t f k) q = (q.plan s t f k refl).text.bytes
  outcome_bytes (refused k p) q = (q.refusal k p refl).bytes

  outcome_length : (o : Outcome) → OutcomePrinted c o sources terminals out out' answer → answer.length ≡ length (outcome_text c o)
  unfolding outcome_text
  outcome_length (planned s t f k) q = (q.plan s t f k refl).text.ends
  outcome_length (refused k p) q = (q.refusal k p refl).ends

-- the bytes printed of two files are the definition's, and so is their count
pub files_bytes : (t p : List ℕ) {out out' : List ℕ} {answer : Printed} → FilesPrinted t p out out' answer → out' ≡ sets out 0 (files_text t p)
files_bytes t p q = outcome_bytes (file_outcome t p) q

pub files_length : (t p : List ℕ) {out out' : List ℕ} {answer : Printed} → FilesPrinted t p out out' answer → answer.length ≡ length (files_text t p)
files_length t p q = outcome_length (file_outcome t p) q

-- neither file is refused
pub record BothStand (t p : List ℕ) : Type 0 where
  pub sources : ℕ
  pub terminals : ℕ
  pub entries : ℕ
  pub case : case_answer t p ≡ counts sources terminals entries

stand_outcome : (t p : List ℕ) → BothStand t p → file_outcome t p ≡ outcome_of (file_case t p)
unfolding file_outcome
stand_outcome t p h = ap (λ (a : CaseAnswer). outcome_for a (file_case t p)) h.case

-- equal cases get equal bytes, plan or refusal, lane by lane
pub equal_files : (t p t₁ p₁ : List ℕ) → BothStand t p → BothStand t₁ p₁ → file_case t p ≡ file_case t₁ p₁ → files_text t p ≡ files_text t₁ p₁
equal_files t p t₁ p₁ h h₁ e =
    ap (outcome_text (file_case t p)) (stand_outcome t p h)
    ∙ ap (λ (c : planner-case.Case). outcome_text c (outcome_of c)) e ∙ sym (ap (outcome_text (file_case t₁ p₁)) (stand_outcome t₁ p₁ h₁))
