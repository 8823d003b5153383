-- Laws of the report. Assumes nothing.
use mathlib.Core.Path.{◌≡◌, refl, sym, ap, ◌∙◌, subst}
use mathlib.Core.Bool.{Bool, true, false, cond, ◌||◌}
use mathlib.Core.List.{List, [], ◌∷◌}
use Prim.Native.Nat.{ℕ, ◌≤◌, ◌<◌}
use native.Mathlib.Omega.{arith}
use lib.Dec.{ltb}
use lib.IntN.{ℤ}
use lib.ListN.{length, set}
use borrow.Author.Tests.{lt-ltb, le-ltb}
use Rattle.transport.specs.Curve.{written}
use Rattle.problem.specs.Case.{Case}
use Rattle.problem.specs.Outcome.{Outcome, outcome_of}
use Rattle.planner.specs.Answer.{Slices, Answered}
use Rattle.bounds_problem.specs.Answers as bounds
use Rattle.export_reports.specs.Report.{number_of, report_of, worth_of, short_report, Told, Untold, Exported}
use Rattle.export_reports.specs.Bounds as told
use Rattle.export_reports.specs.Bounds.{BoundsTold, BoundsUntold, BoundsExported}

-- a cell after cell written is the list written
pub two_written : {A : Type 0} (l : List A) (a b : A) → 2 ≤ length l → set (set l 0 a) 1 b ≡ written (a ∷ b ∷ []) l
two_written [] a b h = absurd (omega arith)
two_written (v ∷ []) a b h = absurd (omega arith)
two_written (v ∷ w ∷ l) a b h = refl

pub one_written : (l : List ℕ) (a : ℕ) → 2 ≤ length l → set l 0 a ≡ written (a ∷ []) l
one_written [] a h = absurd (omega arith)
one_written (v ∷ l) a h = refl

module _ (c : Case) (report : List ℕ) (worth : List ℤ) where
  -- one too short, and nothing written
  short : (s : Slices) → (ltb (length report) 2 || ltb (length worth) 2) ≡ true → Exported c s s report report worth worth short_report
  unfolding Exported
  short s e =
      subst (λ (b : Bool). cond b (Untold s s report report worth worth short_report) (Told c s s report report worth worth short_report)) (sym e)
      record { number = refl; cells = refl; values = refl; slices = refl }

  pub by_short : (s : Slices) → length report < 2 → Exported c s s report report worth worth short_report
  by_short s h = short s (simp (lt-ltb (length report) 2 h))

  pub by_worth : (s : Slices) → 2 ≤ length report → length worth < 2 → Exported c s s report report worth worth short_report
  by_worth s h l = short s (simp (le-ltb (length report) 2 h, lt-ltb (length worth) 2 l))

  -- what the planner answers is told by its number and its cells
  pub by_told : (o : Outcome) (before after : Slices) (reported : List ℕ) (valued : List ℤ) (r : ℕ) → 2 ≤ length report → 2 ≤ length worth
      → Answered c o before after → r ≡ number_of o → reported ≡ written (report_of o) report → valued ≡ written (worth_of o) worth
      → Exported c before after report reported worth valued r
  unfolding Exported
  by_told o before after reported valued r h l a n w v =
      let e : (ltb (length report) 2 || ltb (length worth) 2) ≡ false = simp (le-ltb (length report) 2 h, le-ltb (length worth) 2 l) in
      let q : o ≡ outcome_of c = a.answer in
      subst (λ (b : Bool). cond b (Untold before after report reported worth valued r) (Told c before after report reported worth valued r)) (sym e)
      record {
        number = n ∙ ap number_of q;
        cells = w ∙ ap (λ (o : Outcome). written (report_of o) report) q;
        values = v ∙ ap (λ (o : Outcome). written (worth_of o) worth) q;
        answered = subst (λ (o : Outcome). Answered c o before after) q a;
      }

-- ---- the splits that can be the cheapest

module _ (c : Case) (high report : List ℕ) (worth : List ℤ) where
  bounds-short : (s : List ℕ) → (ltb (length report) 2 || ltb (length worth) 2) ≡ true → BoundsExported c high s s report report worth worth short_report
  unfolding BoundsExported
  bounds-short s e =
      subst (λ (b : Bool). cond b (BoundsUntold s s report report worth worth short_report) (BoundsTold c high s s report report worth worth short_report)) (sym e)
      record { number = refl; cells = refl; values = refl; answers = refl }

  pub by_short_report : (s : List ℕ) → length report < 2 → BoundsExported c high s s report report worth worth short_report
  by_short_report s h = bounds-short s (simp (lt-ltb (length report) 2 h))

  pub by_short_worth : (s : List ℕ) → 2 ≤ length report → length worth < 2 → BoundsExported c high s s report report worth worth short_report
  by_short_worth s h l = bounds-short s (simp (le-ltb (length report) 2 h, lt-ltb (length worth) 2 l))

  -- what is answered is told by its number and its cells
  pub by_bounds : (o : bounds.Outcome) (before after reported : List ℕ) (valued : List ℤ) (r : ℕ) → 2 ≤ length report → 2 ≤ length worth
      → bounds.Answered c high o before after → r ≡ told.number_of o → reported ≡ written (told.report_of o) report → valued ≡ written (told.worth_of o) worth
      → BoundsExported c high before after report reported worth valued r
  unfolding BoundsExported
  by_bounds o before after reported valued r h l a n w v =
      let e : (ltb (length report) 2 || ltb (length worth) 2) ≡ false = simp (le-ltb (length report) 2 h, le-ltb (length worth) 2 l) in
      let q : o ≡ bounds.outcome_of c high (length before) = a.answer in
      subst (λ (b : Bool). cond b (BoundsUntold before after report reported worth valued r) (BoundsTold c high before after report reported worth valued r)) (sym e)
      record {
        number = n ∙ ap told.number_of q;
        cells = w ∙ ap (λ (o : bounds.Outcome). written (told.report_of o) report) q;
        values = v ∙ ap (λ (o : bounds.Outcome). written (told.worth_of o) worth) q;
        answered = subst (λ (o : bounds.Outcome). bounds.Answered c high o before after) q a;
      }
