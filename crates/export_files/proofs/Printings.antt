-- Laws of what is told of a printed text. Assumes nothing.
use mathlib.Core.Path.{◌≡◌, refl, sym, ap, ap₂, ◌∙◌, subst}
use mathlib.Core.Bool.{Bool, true, false, cond}
use mathlib.Core.List.{List, [], ◌∷◌}
use Prim.Native.Nat.{ℕ, ◌≤◌, ◌<◌}
use native.Mathlib.Omega.{arith}
use lib.Dec.{ltb}
use lib.IntN.{ℤ}
use lib.ListN.{length}
use borrow.Author.Tests.{lt-ltb, le-ltb}
use Rattle.transport.specs.Curve.{written}
use Rattle.problem.specs.Case.{Case}
use Rattle.problem.specs.Outcome as plans
use Rattle.bounds_problem.specs.Answers as bounds
use Rattle.flow_problem.specs.Answer as flows
use Rattle.dimacs.specs.Form.{Form, whole, broken, form_of}
use Rattle.plan_files.specs.declared.planned.Printed.{Printed}
use Rattle.plan_files.specs.Printed as printed
use Rattle.plan_files.specs.Printed.{file_case, file_outcome, outcome_text, OutcomePrinted, FilesPrinted}
use Rattle.bounds_files.specs.Bounded as bounded
use Rattle.flow_files.specs.Printing as carried
use Rattle.export_reports.specs.Report.{number_of, short_report}
use Rattle.export_reports.specs.Bounds as bounds-told
use Rattle.export_reports.specs.Flow as flow_told
use Rattle.export_files.specs.Printing.{TextTold, TextUntold, TextExported, plan_place, PlanFilesTold, PlanFilesExported, bounds_place}
use Rattle.export_files.specs.Printing.{bounds_bytes, BoundsFilesTold, BoundsFilesExported, flow_place, FlowFilesTold, FlowFilesExported}

module _ (Told : Type 0) (out report : List ℕ) where
  pub text_untold : length report < 2 → TextExported Told out out report report short_report
  unfolding TextExported
  text_untold h =
      subst (λ (b : Bool). cond b (TextUntold out out report report short_report) Told) (sym (lt-ltb (length report) 2 h))
      record { number_told = refl; bytes = refl; cells = refl }

  exported : (out' reported : List ℕ) (r : ℕ) → 2 ≤ length report → Told → TextExported Told out out' report reported r
  unfolding TextExported
  exported out' reported r h t =
      subst (λ (b : Bool). cond b (TextUntold out out' report reported r) Told) (sym (le-ltb (length report) 2 h)) t

-- what is printed is told by its number and its cells
module _ (out out' report reported : List ℕ) (r : ℕ) (answer : Printed) (h : 2 ≤ length report) (n : r ≡ answer.number) (w : reported ≡ written (answer.length ∷ answer.place ∷ []) report) where
  by_text : {number place sources terminals : ℕ} {text : List ℕ} → printed.Told number place sources terminals text out out' answer
      → TextTold number place text out out' report reported r
  by_text q = record {
    number_told = n ∙ q.number_told;
    bytes = q.bytes;
    cells = w ∙ ap₂ (λ (a b : ℕ). written (a ∷ b ∷ []) report) q.ends q.place_told;
  }

  plan_outcome : {c : Case} {sources terminals : ℕ} (o : plans.Outcome) → OutcomePrinted c o sources terminals out out' answer
      → TextTold (number_of o) (plan_place o) (outcome_text c o) out out' report reported r
  unfolding outcome_text
  plan_outcome (plans.planned s t f k) q = by_text (q.plan s t f k refl).text
  plan_outcome (plans.refused k p) q = by_text (q.refusal k p refl)

  pub plan_told : (t p : List ℕ) → FilesPrinted t p out out' answer → PlanFilesExported t p out out' report reported r
  plan_told t p q =
      exported (PlanFilesTold t p out out' report reported r) out report out' reported r h
      record { told = plan_outcome (file_outcome t p) q; answer = answer; promised = q }

  bounds-outcome : {c : Case} {high : List ℕ} {sources terminals : ℕ} (o : bounds.Outcome) → bounded.OutcomePrinted c high o sources terminals out out' answer
      → TextTold (bounds-told.number_of o) (bounds_place o) (bounds_bytes c high o) out out' report reported r
  unfolding bounds_bytes
  bounds-outcome (bounds.known i k s l) q = by_text (q.splits i k s l refl)
  bounds-outcome (bounds.refused k p) q = by_text (q.refusal k p refl)

  pub bounds-told-of : (t l u : List ℕ) → bounded.FilesPrinted t l u out out' answer → BoundsFilesExported t l u out out' report reported r
  bounds-told-of t l u q =
      exported (BoundsFilesTold t l u out out' report reported r) out report out' reported r h
      record { told = bounds-outcome (bounded.files_outcome t l u) q; answer = answer; promised = q }

  -- number and place of a flow: a network that has one is of the form
  module _ (s arc t : List ℕ) (q : carried.FilesPrinted s arc t out out' answer) where
    carried_numbers : (total : ℤ) → carried.files_outcome s arc t ≡ flows.carried total → (answer.number ≡ 0) × (answer.place ≡ 0)
    unfolding carried.files_outcome
    carried_numbers total e = go (ltb 65536 (length s)) refl (form_of s) refl e
      where
        go : (b : Bool) → ltb 65536 (length s) ≡ b → (f : Form) → form_of s ≡ f
            → cond b (flows.refused 20 0) (carried.form_then f (carried.table_outcome s arc t)) ≡ flows.carried total → (answer.number ≡ 0) × (answer.place ≡ 0)
        go true eb f ef h = absurd (let z : ◌≡◌ {A = ℕ} 0 1 = cc in omega arith)
        go false eb (broken line) ef h = absurd (let z : ◌≡◌ {A = ℕ} 0 1 = cc in omega arith)
        go false eb (whole f) ef h = let told = (q.flow f total ef e).text in (told.number_told, told.place_told)

    numbers : (o : flows.Outcome) → carried.files_outcome s arc t ≡ o → (answer.number ≡ flow_told.number_of o) × (answer.place ≡ flow_place o)
    numbers (flows.carried total) e = carried_numbers total e
    numbers (flows.refused k p) e = let told = q.refusal k p e in (told.number_told, told.place_told)

    pub flow_told_of : FlowFilesExported s arc t out out' report reported r
    flow_told_of =
        let m = numbers (carried.files_outcome s arc t) refl in
        exported (FlowFilesTold s arc t out out' report reported r) out report out' reported r h
        record {
          number_told = n ∙ m.0;
          answer = answer;
          promised = q;
          cells = w ∙ ap (λ (b : ℕ). written (answer.length ∷ b ∷ []) report) m.1;
        }
