-- Laws of the report on a network's flow. Assumes nothing.
use mathlib.Core.Path.{◌≡◌, refl, sym, ap, ◌∙◌, subst}
use mathlib.Core.Bool.{Bool, true, false, cond, ◌||◌}
use mathlib.Core.List.{List, [], ◌∷◌}
use Prim.Native.Nat.{ℕ, ◌≤◌, ◌<◌}
use native.Mathlib.Omega.{arith}
use lib.Dec.{ltb}
use lib.IntN.{ℤ}
use lib.ListN.{length, set}
use borrow.Author.Tests.{lt-ltb, le-ltb}
use Rattle.transport.specs.Curve.{written}
use Rattle.dimacs.specs.Form.{form_of}
use Rattle.flow_problem.specs.Answer.{Outcome, carried, refused, outcome_of}
use Rattle.flow_problem.specs.Promise.{Slices, room_of, Answered}
use Rattle.flow_network.specs.Answer.{count_of, arcs_said}
use Rattle.export_reports.specs.Report.{short_report}
use Rattle.export_reports.specs.Flow.{number_of, report_of, worth_of, FlowTold, FlowUntold, FlowExported}

-- the first cell written is the list of one written
pub first_written : {A : Type 0} (l : List A) (a : A) → 1 ≤ length l → set l 0 a ≡ written (a ∷ []) l
first_written [] a h = absurd (omega arith)
first_written (v ∷ l) a h = refl

-- the count that is told beside a flow is the file's; a refusal tells none
count_told : (n : ℕ) (o : Outcome) → report_of (count_of o n) o ≡ report_of n o
count_told n (carried t) = refl
count_told n (refused k p) = refl

module _ (bytes : List ℕ) (place : ℕ) (table report : List ℕ) (worth : List ℤ) where
  short : (s : Slices) → (ltb (length report) 1 || ltb (length worth) 1) ≡ true → FlowExported bytes place table s s report report worth worth short_report
  unfolding FlowExported
  short s e =
      subst (λ (b : Bool). cond b (FlowUntold s s report report worth worth short_report) (FlowTold bytes place table s s report report worth worth short_report)) (sym e)
      record { number = refl; cells = refl; values = refl; slices = refl }

  pub by_short_report : (s : Slices) → length report < 1 → FlowExported bytes place table s s report report worth worth short_report
  by_short_report s h = short s (simp (lt-ltb (length report) 1 h))

  pub by_short_worth : (s : Slices) → 1 ≤ length report → length worth < 1 → FlowExported bytes place table s s report report worth worth short_report
  by_short_worth s h l = short s (simp (le-ltb (length report) 1 h, lt-ltb (length worth) 1 l))

  -- what is answered is told by its number and its cells
  pub by_flow : (n : ℕ) (o : Outcome) (before after : Slices) (reported : List ℕ) (valued : List ℤ) (r : ℕ) → 1 ≤ length report → 1 ≤ length worth
      → n ≡ count_of o (arcs_said (form_of bytes)) → Answered bytes place table o before after → r ≡ number_of o → reported ≡ written (report_of n o) report → valued ≡ written (worth_of o) worth
      → FlowExported bytes place table before after report reported worth valued r
  unfolding FlowExported
  by_flow n o before after reported valued r h l c a k w v =
      let e : (ltb (length report) 1 || ltb (length worth) 1) ≡ false = simp (le-ltb (length report) 1 h, le-ltb (length worth) 1 l) in
      let q : o ≡ outcome_of bytes place table (room_of before) = a.answer in
      subst (λ (b : Bool). cond b (FlowUntold before after report reported worth valued r) (FlowTold bytes place table before after report reported worth valued r)) (sym e)
      record {
        number = k ∙ ap number_of q;
        cells = w ∙ ap (λ (l : List ℕ). written l report) (ap (λ (n : ℕ). report_of n o) c ∙ count_told (arcs_said (form_of bytes)) o ∙ ap (report_of (arcs_said (form_of bytes))) q);
        values = v ∙ ap (λ (o : Outcome). written (worth_of o) worth) q;
        answered = subst (λ (o : Outcome). Answered bytes place table o before after) q a;
      }
