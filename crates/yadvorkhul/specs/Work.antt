-- What a caller outside Rattle is told of a call on a working case: a number, and a refusal's place in a lent slice. Assumes nothing.
use Rattle.std.specs.Prelude.{◌≡◌, cond, ◌||◌, List, [], ℕ, ltb, ℤ, length}
use Rattle.std.proofs.Math.Option.{Option, none, some}
use Rattle.transport.specs.Curve.{written}
use Rattle.problem.specs.Outcome.{Outcome, ◌or_else◌}
use Rattle.planner.specs.Answer.{Slices}
use Rattle.work_store.specs.State.{Draft, State}
use Rattle.work_store.specs.Calls.{Call, go_back}
use Rattle.work_store.specs.Store.{held_in}
use Rattle.work_store.specs.Promise.{answer_to, steps, entry_refusal, Entered}
use Rattle.work_plans.specs.Planning.{outcome_in, outcome_unless, PlannedUnless}
use Rattle.work_store.specs.Seeing.{tariff_answer, table_answer, limits_answer, marks_answer}
use Rattle.roletable.specs.Deeds.{see_tariff, see_table, plan, test31}
use Rattle.roletable.specs.Promise.{answer_by, PerformedBy, TariffSeen, TableSeen, LimitsSeen, MarksSeen}
use Rattle.export_reports.specs.Report.{number_of, report_of, worth_of, short_report, Untold}

-- 0 where a call is done, else the refusal's number
abbrev pub verdict_number : Option Outcome → ℕ
verdict_number none = 0
verdict_number (some o) = number_of o

-- the place of a refusal; nothing of a call that is done
abbrev pub verdict_report : Option Outcome → List ℕ
verdict_report none = []
verdict_report (some o) = report_of o

-- ---- a call that has a refusal or none for its answer

-- the report is long enough: number and place are those of the answer, and what is promised of it is done
pub record CallTold (answer : Option Outcome) (Done : Option Outcome → Type 0) (report reported : List ℕ) (r : ℕ) : Type 0 where
  pub number : r ≡ verdict_number answer
  pub cells : reported ≡ written (verdict_report answer) report
  pub done : Done answer

-- it is too short: nothing is done
pub record CallUntold (Kept : Type 0) (report reported : List ℕ) (r : ℕ) : Type 0 where
  pub number : r ≡ short_report
  pub cells : reported ≡ report
  pub kept : Kept

unfoldable pub CallExported : Option Outcome → (Option Outcome → Type 0) → Type 0 → List ℕ → List ℕ → ℕ → Type 0
CallExported answer Done Kept report reported r = cond (ltb (length report) 2) (CallUntold Kept report reported r) (CallTold answer Done report reported r)

-- entering a case, which takes no role
abbrev pub EnterExported : Draft → List ℕ → List ℕ → List ℕ → List ℕ → ℕ → Type 0
EnterExported d before after report reported r = CallExported (entry_refusal d (length before)) (Entered d before after) (after ≡ before) report reported r

-- an edit, a mark or a return
abbrev pub WorkExported : ℕ → Call → List ℕ → List ℕ → List ℕ → List ℕ → ℕ → Type 0
WorkExported role call before after report reported r =
    CallExported (answer_by role call (held_in before)) (PerformedBy role call before after) (after ≡ before) report reported r

-- the three lent slices of the tariff, before and after
abbrev pub TariffExported : ℕ → Option State → List ℤ → List ℕ → List ℕ → List ℤ → List ℕ → List ℕ → List ℕ → List ℕ → ℕ → Type 0
TariffExported role held c s d c' s' d' report reported r =
    CallExported (test31 role see_tariff or_else tariff_answer (length c) (length s) (length d) held) (TariffSeen role held c s d c' s' d')
    ((c' ≡ c) × (s' ≡ s) × (d' ≡ d)) report reported r

abbrev pub TableExported : ℕ → Option State → List ℕ → List ℕ → List ℕ → List ℕ → ℕ → Type 0
TableExported role held t t' report reported r =
    CallExported (test31 role see_table or_else table_answer (length t) held) (TableSeen role held t t') (t' ≡ t) report reported r

-- the two lent slices of the limits, before and after
abbrev pub LimitsExported : ℕ → Option State → List ℕ → List ℕ → List ℕ → List ℕ → List ℕ → List ℕ → ℕ → Type 0
LimitsExported role held u c u' c' report reported r =
    CallExported (test31 role plan or_else limits_answer (length u) (length c) held) (LimitsSeen role held u c u' c') ((u' ≡ u) × (c' ≡ c)) report reported r

abbrev pub MarksExported : ℕ → Option State → List ℕ → List ℕ → List ℕ → List ℕ → ℕ → Type 0
MarksExported role held f f' report reported r =
    CallExported (test31 role plan or_else marks_answer (length f) held) (MarksSeen role held f f') (f' ≡ f) report reported r

-- ---- planning

-- the outcome, unless planning is refused before
abbrev pub outcome_told : Option Outcome → Option State → Slices → Outcome
outcome_told t held s = outcome_unless t (outcome_in held (length s.plan) (length s.splits) (length s.freights))

-- report and worth are long enough: the number, the report and the worth are those of the outcome, the lent slices are as promised
pub record PlanTold (t : Option Outcome) (held : Option State) (before after : Slices) (report reported : List ℕ) (worth valued : List ℤ) (r : ℕ) : Type 0 where
  pub number : r ≡ number_of (outcome_told t held before)
  pub cells : reported ≡ written (report_of (outcome_told t held before)) report
  pub values : valued ≡ written (worth_of (outcome_told t held before)) worth
  pub planned :
      PlannedUnless t held (length before.plan) (length before.splits) (length before.freights) (outcome_told t held before) before after

-- all that is promised, by the two lengths
unfoldable pub ExportedUnless : Option Outcome → Option State → Slices → Slices → List ℕ → List ℕ → List ℤ → List ℤ → ℕ → Type 0
ExportedUnless t held before after report reported worth valued r =
    cond (ltb (length report) 2 || ltb (length worth) 2) (Untold before after report reported worth valued r)
    (PlanTold t held before after report reported worth valued r)

-- 31 first of all
abbrev pub PlanExported : ℕ → Option State → Slices → Slices → List ℕ → List ℕ → List ℤ → List ℤ → ℕ → Type 0
PlanExported role held before after report reported worth valued r = ExportedUnless (test31 role plan) held before after report reported worth valued r

-- then 24 and 25 as for going back to the mark, else what planning after going back gives
abbrev pub MarkExported : ℕ → ℕ → Option State → Slices → Slices → List ℕ → List ℕ → List ℤ → List ℤ → ℕ → Type 0
MarkExported role k held before after report reported worth valued r =
    ExportedUnless (test31 role plan or_else answer_to (go_back k) held) (steps (go_back k) held) before after report reported worth valued r
