-- Laws of what is told of a call on a working case. Assumes nothing.
use mathlib.Core.Path.{◌≡◌, refl, sym, ap, ◌∙◌, subst}
use mathlib.Core.Bool.{Bool, true, false, cond, ◌||◌}
use mathlib.Core.Option.{Option}
use mathlib.Core.List.{List}
use Prim.Native.Nat.{ℕ, ◌≤◌, ◌<◌}
use lib.Dec.{ltb}
use lib.IntN.{ℤ}
use lib.ListN.{length}
use borrow.Author.Tests.{lt-ltb, le-ltb}
use Rattle.transport.specs.Curve.{written}
use Rattle.problem.specs.Outcome.{Outcome}
use Rattle.planner.specs.Answer.{Slices}
use Rattle.work_store.specs.State.{State}
use Rattle.work_store.specs.Calls.{edit_cost}
use Rattle.roletable.specs.Promise.{PerformedBy}
use Rattle.work_plans.specs.Planning.{PlannedUnless}
use Rattle.export_reports.specs.Report.{number_of, report_of, worth_of, short_report, Untold}
use Rattle.yadvorkhul.specs.Work.{verdict_number, verdict_report, CallTold, CallUntold, CallExported, outcome_told, PlanTold, ExportedUnless}

module _ (answer : Option Outcome) (Done : Option Outcome → Type 0) (Kept : Type 0) (report : List ℕ) where
  pub call_untold : length report < 2 → Kept → CallExported answer Done Kept report report short_report
  unfolding CallExported
  call_untold h k =
      subst (λ (b : Bool). cond b (CallUntold Kept report report short_report) (CallTold answer Done report report short_report)) (sym (lt-ltb (length report) 2 h))
      record { number = refl; cells = refl; kept = k }

  -- an answer that is the one promised is told by its number and its cells
  pub call_told : (o : Option Outcome) (reported : List ℕ) (r : ℕ) → 2 ≤ length report → o ≡ answer → Done o → r ≡ verdict_number o
      → reported ≡ written (verdict_report o) report → CallExported answer Done Kept report reported r
  unfolding CallExported
  call_told o reported r h q d n w =
      subst (λ (b : Bool). cond b (CallUntold Kept report reported r) (CallTold answer Done report reported r)) (sym (le-ltb (length report) 2 h))
      record { number = n ∙ ap verdict_number q; cells = w ∙ ap (λ (o : Option Outcome). written (verdict_report o) report) q; done = subst Done q d }

-- a signed unit cost, as it is handed on
pub same_cost : (role i j : ℕ) (v w : ℤ) (before after : List ℕ) (r : Option Outcome) → v ≡ w → PerformedBy role (edit_cost i j v) before after r
    → PerformedBy role (edit_cost i j w) before after r
same_cost role i j v w before after r e p = subst (λ (z : ℤ). PerformedBy role (edit_cost i j z) before after r) e p

-- ---- planning

module _ (t : Option Outcome) (held : Option State) (report : List ℕ) (worth : List ℤ) where
  short : (s : Slices) → (ltb (length report) 2 || ltb (length worth) 2) ≡ true → ExportedUnless t held s s report report worth worth short_report
  unfolding ExportedUnless
  short s e =
      subst (λ (b : Bool). cond b (Untold s s report report worth worth short_report) (PlanTold t held s s report report worth worth short_report)) (sym e)
      record { number = refl; cells = refl; values = refl; slices = refl }

  pub plan_untold : (s : Slices) → length report < 2 → ExportedUnless t held s s report report worth worth short_report
  plan_untold s h = short s (simp (lt-ltb (length report) 2 h))

  pub plan_unvalued : (s : Slices) → 2 ≤ length report → length worth < 2 → ExportedUnless t held s s report report worth worth short_report
  plan_unvalued s h l = short s (simp (le-ltb (length report) 2 h, lt-ltb (length worth) 2 l))

  pub plan_told : (o : Outcome) (before after : Slices) (reported : List ℕ) (valued : List ℤ) (r : ℕ) → 2 ≤ length report → 2 ≤ length worth
      → PlannedUnless t held (length before.plan) (length before.splits) (length before.freights) o before after → r ≡ number_of o
      → reported ≡ written (report_of o) report → valued ≡ written (worth_of o) worth → ExportedUnless t held before after report reported worth valued r
  unfolding ExportedUnless
  plan_told o before after reported valued r h l a n w v =
      let e : (ltb (length report) 2 || ltb (length worth) 2) ≡ false = simp (le-ltb (length report) 2 h, le-ltb (length worth) 2 l) in
      let q : o ≡ outcome_told t held before = a.answer in
      subst (λ (b : Bool). cond b (Untold before after report reported worth valued r) (PlanTold t held before after report reported worth valued r)) (sym e)
      record {
        number = n ∙ ap number_of q;
        cells = w ∙ ap (λ (o : Outcome). written (report_of o) report) q;
        values = v ∙ ap (λ (o : Outcome). written (worth_of o) worth) q;
        planned =
            subst (λ (o : Outcome). PlannedUnless t held (length before.plan) (length before.splits) (length before.freights) o before after) q a;
      }
