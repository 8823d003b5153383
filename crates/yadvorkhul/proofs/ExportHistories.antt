-- After any history of calls through the exports, refused ones among them, the store holds what the calls that work do to the entered case, and planning
-- tells what it tells of that case entered afresh: number, report, worth and lent cells. Assumes nothing.
use mathlib.Core.Path.{◌≡◌, refl, sym, ap, ◌∙◌, subst}
use mathlib.Core.Bool.{Bool, true, false, cond, ◌||◌}
use mathlib.Core.Option.{Option, none, some}
use mathlib.Core.List.{List, [], ◌∷◌, ◌++◌, map}
use Prim.Native.Nat.{ℕ, ◌≤◌}
use lib.Dec.{ltb}
use lib.IntN.{ℤ}
use lib.ListN.{length}
use borrow.Author.Tests.{le-ltb}
use Rattle.transport.specs.Curve.{written}
use Rattle.problem.specs.Outcome.{Outcome}
use Rattle.planner.specs.Answer.{Slices}
use Rattle.work_store.specs.State.{Draft, entered}
use Rattle.work_store.specs.Calls.{Call, run}
use Rattle.work_store.specs.Store.{held_in}
use Rattle.work_store.specs.Promise.{entry_refusal, Entered}
use Rattle.work_plans.specs.History.{Leads, start}
use Rattle.work_plans.proofs.Histories.{held_last}
use Rattle.roletable.specs.Deeds.{plan, test31}
use Rattle.roletable.specs.Promise.{answer_by, PerformedBy}
use Rattle.roletable.specs.Secrecy.{Asked, act, tariff, table, planning, mark_planning, limits, marks}
use Rattle.roletable.specs.History.{work_of}
use Rattle.roletable.proofs.HistoriesByRole.{acted_leads, plans_afresh_by}
use Rattle.export_reports.specs.Report.{number_of, report_of, worth_of, Untold}
use Rattle.yadvorkhul.specs.Work.{CallTold, CallUntold, CallExported, EnterExported, outcome_told, PlanTold, ExportedUnless, PlanExported}
use Rattle.yadvorkhul.specs.Callers.{Said, Called, said, Got, Answers, Runs, calls_of}

-- one call, then the rest of a history
module _ (role : ℕ) (u : List ℕ) (w : List ℤ) (before after last : List ℕ) (x : Got) (h : List Call) (l : Leads h after last) where
  act_leads : (call : Call) → Answers role (act call) u w before after x → Leads (cond (ltb (length u) 2) [] (work_of role (act call)) ++ h) before last
  unfolding CallExported work_of
  act_leads call p = go (ltb (length u) 2) p.0
    where
      go : (b : Bool) → cond b (CallUntold (after ≡ before) u x.report x.number) (CallTold (answer_by role call (held_in before)) (PerformedBy role call before after) u x.report x.number)
          → Leads (cond b [] (work_of role (act call)) ++ h) before last
      go true t = subst (λ (c : List ℕ). Leads h c last) t.kept l
      go false t = acted_leads role call before after last (answer_by role call (held_in before)) t.done h l

  stay_leads : (b : Bool) → after ≡ before → Leads (cond b [] [] ++ h) before last
  stay_leads true e = subst (λ (c : List ℕ). Leads h c last) e l
  stay_leads false e = subst (λ (c : List ℕ). Leads h c last) e l

  answer_leads : (ask : Asked) → Answers role ask u w before after x → Leads (cond (ltb (length u) 2) [] (work_of role ask) ++ h) before last
  unfolding work_of
  answer_leads (act call) p = act_leads call p
  answer_leads (tariff c s d) p = stay_leads (ltb (length u) 2) p.6
  answer_leads (table t) p = stay_leads (ltb (length u) 2) p.4
  answer_leads (planning old) p = stay_leads (ltb (length u) 2) p.3
  answer_leads (mark_planning k old) p = stay_leads (ltb (length u) 2) p.3
  answer_leads (limits r c) p = stay_leads (ltb (length u) 2) p.5
  answer_leads (marks f) p = stay_leads (ltb (length u) 2) p.4

-- a history through the exports does to the store what the calls do that work
pub runs_lead : (h : List Said) (before last : List ℕ) (l : List Got) → Runs (map said h) before last l → Leads (calls_of h) before last
unfolding Runs calls_of
runs_lead [] before last l g = subst (λ (c : List ℕ). Leads [] before c) (sym g.0) start
runs_lead (c ∷ h) before last l g =
    answer_leads c.role c.report c.worth before g.0 last g.1 (calls_of h) (runs_lead h g.0 last g.2 g.4) c.ask g.3

-- a case that is accepted, with a report that is long enough
pub entering_done : (d : Draft) (before after u v : List ℕ) (r : ℕ) → 2 ≤ length u → entry_refusal d (length before) ≡ none → EnterExported d before after u v r
    → Entered d before after none
unfolding CallExported
entering_done d before after u v r long e x =
    let t : CallTold (entry_refusal d (length before)) (Entered d before after) u v r =
    subst (λ (b : Bool). cond b (CallUntold (after ≡ before) u v r) (CallTold (entry_refusal d (length before)) (Entered d before after) u v r)) (le-ltb (length u) 2 long) x in
    subst (Entered d before after) e t.done

module _ (h : List Said) (lent store last : List ℕ) (l : List Got) (d : Draft) (e : Entered d lent store none) (g : Runs (map said h) store last l) where
  -- what the store holds after a history through the exports
  pub held_after_exports : held_in last ≡ some (run (calls_of h) (entered d))
  held_after_exports = held_last d e (runs_lead h store last l g)

  -- planning by a role then, and planning by it the case of that history entered afresh into any store, with the same report, worth and slices lent
  pub exports_plan_afresh : {other fresh : List ℕ} → Entered (run (calls_of h) (entered d)).case other fresh none
      → (role : ℕ) (old new new' : Slices) (u v v' : List ℕ) (w y y' : List ℤ) (r r' : ℕ) → PlanExported role (held_in last) old new u v w y r
      → PlanExported role (held_in fresh) old new' u v' w y' r' → (r ≡ r') × (v ≡ v') × (y ≡ y') × (new ≡ new')
  unfolding ExportedUnless
  exports_plan_afresh {other} {fresh} a role old new new' u v v' w y y' r r' = go (ltb (length u) 2 || ltb (length w) 2)
    where
      t : Option Outcome
      t = test31 role plan

      go : (b : Bool) → cond b (Untold old new u v w y r) (PlanTold t (held_in last) old new u v w y r)
          → cond b (Untold old new' u v' w y' r') (PlanTold t (held_in fresh) old new' u v' w y' r') → (r ≡ r') × (v ≡ v') × (y ≡ y') × (new ≡ new')
      go true p q = (p.number ∙ sym q.number, p.cells ∙ sym q.cells, p.values ∙ sym q.values, p.slices ∙ sym q.slices)
      go false p q =
          let s = plans_afresh_by d e (runs_lead h store last l g) a role (length old.plan) (length old.splits) (length old.freights)
          (outcome_told t (held_in last) old) (outcome_told t (held_in fresh) old) old new new' p.planned q.planned in (
            p.number ∙ ap number_of s.0 ∙ sym q.number,
            p.cells ∙ ap (λ (o : Outcome). written (report_of o) u) s.0 ∙ sym q.cells,
            p.values ∙ ap (λ (o : Outcome). written (worth_of o) w) s.0 ∙ sym q.values,
            s.1,
          )
