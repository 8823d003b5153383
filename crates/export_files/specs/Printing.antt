-- What a caller outside Rattle is told of what is printed of files: a number, the text in a lent slice, its length and a refusal's place in
-- another. Assumes nothing.
use Rattle.std.specs.Prelude.{◌≡◌, cond, List, [], ◌∷◌, ℕ, ltb, length}
use Rattle.std.proofs.lemmas.List.Edits.{sets}
use Rattle.transport.specs.Curve.{written}
use Rattle.csv_print.specs.Text.{refusal_text}
use Rattle.csv_answers.specs.Bounds.{bounds_text}
use Rattle.problem.specs.Case.{Case}
use Rattle.problem.specs.Outcome as plans
use Rattle.bounds_problem.specs.Tables.{marks}
use Rattle.bounds_problem.specs.Answers as bounds
use Rattle.flow_problem.specs.Answer as flows
use Rattle.csv_case.specs.Entries.{entries_of}
use Rattle.plan_files.specs.declared.planned.Printed.{Printed}
use Rattle.plan_files.specs.Printed.{file_case, file_outcome, files_text, FilesPrinted}
use Rattle.bounds_files.specs.Bounded as bounded
use Rattle.flow_files.specs.Printing as carried
use Rattle.export_reports.specs.Report.{number_of, short_report}
use Rattle.export_reports.specs.Bounds as bounds-told
use Rattle.export_reports.specs.Flow as flow_told

-- a text, as far as there is room, its length and the place
pub record TextTold (number place : ℕ) (text out out' report reported : List ℕ) (r : ℕ) : Type 0 where
  pub number_told : r ≡ number
  pub bytes : out' ≡ sets out 0 text
  pub cells : reported ≡ written (length text ∷ place ∷ []) report

-- the report is too short: nothing is done
pub record TextUntold (out out' report reported : List ℕ) (r : ℕ) : Type 0 where
  pub number_told : r ≡ short_report
  pub bytes : out' ≡ out
  pub cells : reported ≡ report

-- all that is promised, by the report's length
unfoldable pub TextExported : Type 0 → List ℕ → List ℕ → List ℕ → List ℕ → ℕ → Type 0
TextExported Told out out' report reported r = cond (ltb (length report) 2) (TextUntold out out' report reported r) Told

-- ---- a plan

-- the place of a refusal, 0 of a plan
abbrev pub plan_place : plans.Outcome → ℕ
plan_place (plans.planned s t f k) = 0
plan_place (plans.refused k p) = p

-- the bytes are those of the two files by definition; the plan is one, and the cheapest
pub record PlanFilesTold (t p out out' report reported : List ℕ) (r : ℕ) : Type 0 where
  pub told : TextTold (number_of (file_outcome t p)) (plan_place (file_outcome t p)) (files_text t p) out out' report reported r
  pub answer : Printed
  pub promised : FilesPrinted t p out out' answer

abbrev pub PlanFilesExported : List ℕ → List ℕ → List ℕ → List ℕ → List ℕ → List ℕ → ℕ → Type 0
PlanFilesExported t p out out' report reported r = TextExported (PlanFilesTold t p out out' report reported r) out out' report reported r

-- ---- the splits that can be the cheapest

abbrev pub bounds_place : bounds.Outcome → ℕ
bounds_place (bounds.known i n s l) = 0
bounds_place (bounds.refused k p) = p

-- the bytes of an outcome: the two totals and the marks of the splits, or the refusal
unfoldable pub bounds_bytes : Case → List ℕ → bounds.Outcome → List ℕ
bounds_bytes c high (bounds.known i n s l) = bounds_text s l i (marks c high)
bounds_bytes c high (bounds.refused k p) = refusal_text k p

-- the bytes that a tariff, a low and a high file get, from the files alone
abbrev pub bounds_files_text : List ℕ → List ℕ → List ℕ → List ℕ
bounds_files_text t l h = bounds_bytes (file_case t l) (entries_of h) (bounded.files_outcome t l h)

-- the bytes are those of the three files by definition; what they say is promised of the printer
pub record BoundsFilesTold (t l h out out' report reported : List ℕ) (r : ℕ) : Type 0 where
  pub told :
      TextTold (bounds-told.number_of (bounded.files_outcome t l h)) (bounds_place (bounded.files_outcome t l h)) (bounds_files_text t l h) out out' report reported
      r
  pub answer : Printed
  pub promised : bounded.FilesPrinted t l h out out' answer

abbrev pub BoundsFilesExported : List ℕ → List ℕ → List ℕ → List ℕ → List ℕ → List ℕ → List ℕ → ℕ → Type 0
BoundsFilesExported t l h out out' report reported r = TextExported (BoundsFilesTold t l h out out' report reported r) out out' report reported r

-- ---- a flow

abbrev pub flow_place : flows.Outcome → ℕ
flow_place (flows.carried t) = 0
flow_place (flows.refused k p) = p

-- of the flows with the least total and the smallest flow on the named arc one is printed, so the text is that of an answer as promised
pub record FlowFilesTold (s arc t out out' report reported : List ℕ) (r : ℕ) : Type 0 where
  pub number_told : r ≡ flow_told.number_of (carried.files_outcome s arc t)
  pub answer : Printed
  pub promised : carried.FilesPrinted s arc t out out' answer
  pub cells : reported ≡ written (answer.length ∷ flow_place (carried.files_outcome s arc t) ∷ []) report

abbrev pub FlowFilesExported : List ℕ → List ℕ → List ℕ → List ℕ → List ℕ → List ℕ → List ℕ → ℕ → Type 0
FlowFilesExported s arc t out out' report reported r = TextExported (FlowFilesTold s arc t out out' report reported r) out out' report reported r
