-- After any history of calls by roles, refused ones among them, the store holds what the calls that the roles may make do to the entered case, and
-- planning gives what that case entered afresh would give. Assumes nothing.
use mathlib.Core.Path.{◌≡◌, refl, sym, ap, ◌∙◌, subst}
use mathlib.Core.Bool.{Bool, true, false, ◌||◌, ◌&&◌}
use mathlib.Core.Option.{Option, none, some}
use mathlib.Core.List.{List, [], ◌∷◌, ◌++◌}
use Prim.Native.Nat.{ℕ}
use Rattle.problem.specs.Outcome.{Outcome, refused, refuse_if, ◌or_else◌}
use Rattle.planner.specs.Answer.{Slices}
use Rattle.work_store.specs.State.{Draft, State, entered}
use Rattle.work_store.specs.Calls.{Call, run}
use Rattle.work_store.specs.Store.{held_in, sources, terminals, writes}
use Rattle.work_store.specs.Promise.{answer_to, steps, cells_unless, Performed, Entered}
use Rattle.work_plans.specs.Planning.{outcome_in, outcome_unless, PlannedFrom}
use Rattle.work_plans.specs.History.{Leads, start, then}
use Rattle.work_plans.proofs.Histories.{held_last, plans_afresh}
use Rattle.roletable.specs.Roles.{barred, barred_first}
use Rattle.roletable.specs.Deeds.{work, plan, column, first, test31}
use Rattle.roletable.specs.Promise.{answer_by, unless_held, steps_by, PerformedBy, PlannedBy}
use Rattle.roletable.specs.Secrecy.{Asked, act, tariff, table, planning, mark_planning, limits, marks, Heard, Made, By, Goes}
use Rattle.roletable.specs.History.{let_in, work_of, calls_of}
use Rattle.roletable.proofs.Allowed.{told_first}

-- one call, then the rest of a history
module _ (role : ℕ) (call : Call) (before after last : List ℕ) (r : Option Outcome) (p : PerformedBy role call before after r) where
  performed : test31 role (work call) ≡ none → Performed call before after r
  unfolding answer_by steps_by ◌or_else◌
  performed e = record {
    answer = p.answer ∙ ap (λ (t : Option Outcome). t or_else answer_to call (held_in before)) e;
    cells = p.cells;
    state = p.state ∙ ap (λ (t : Option Outcome). unless_held t (steps call (held_in before)) (held_in before)) e;
  }

  unchanged : (o : Outcome) → test31 role (work call) ≡ some o → after ≡ before
  unchanged o e =
      p.cells
      ∙ ap (λ (t : Option Outcome). cells_unless t (writes (sources before) (terminals before) call before) before)
      (p.answer ∙ told_first role call o (held_in before) e)

  pub acted_leads : (h : List Call) → Leads h after last → Leads (let_in (test31 role (work call)) call ++ h) before last
  acted_leads h l = go (test31 role (work call)) refl
    where
      go : (t : Option Outcome) → test31 role (work call) ≡ t → Leads (let_in t call ++ h) before last
      go none e = then (performed e) l
      go (some o) e = subst (λ (c : List ℕ). Leads h c last) (unchanged o e) l

stay_leads : (h : List Call) (before after last : List ℕ) → after ≡ before → Leads h after last → Leads h before last
stay_leads h before after last e l = subst (λ (c : List ℕ). Leads h c last) e l

pub made_leads : (role : ℕ) (ask : Asked) (before after last : List ℕ) (x : Heard) → Made role ask before after x → (h : List Call) → Leads h after last
    → Leads (work_of role ask ++ h) before last
unfolding work_of
made_leads role (act call) before after last x p h l = acted_leads role call before after last p.r p.done h l
made_leads role (tariff c s d) before after last x p h l = stay_leads h before after last p.stays l
made_leads role (table t) before after last x p h l = stay_leads h before after last p.stays l
made_leads role (planning old) before after last x p h l = stay_leads h before after last p.stays l
made_leads role (mark_planning k old) before after last x p h l = stay_leads h before after last p.stays l
made_leads role (limits u c) before after last x p h l = stay_leads h before after last p.stays l
made_leads role (marks f) before after last x p h l = stay_leads h before after last p.stays l

-- a history by roles does to the store what the calls do that the roles may make
pub goes_leads : (h : List By) (before last : List ℕ) (l : List Heard) → Goes h before last l → Leads (calls_of h) before last
unfolding Goes calls_of
goes_leads [] before last l g = subst (λ (c : List ℕ). Leads [] before c) (sym g.0) start
goes_leads (c ∷ h) before last l g =
    made_leads c.role c.ask before g.0 last g.1 g.3 (calls_of h) (goes_leads h g.0 last g.2 g.4)

-- planning by a role is planning, where the role may plan
pub planned_from : (role : ℕ) (held : Option State) (p q f : ℕ) (r : Outcome) (before after : Slices) → test31 role plan ≡ none
    → PlannedBy role held p q f r before after → PlannedFrom held p q f r before after
planned_from role held p q f r before after e w = record {
  answer = w.answer ∙ ap (λ (t : Option Outcome). outcome_unless t (outcome_in held p q f)) e;
  work = λ s g. w.work s e g;
  kept = w.kept;
}

module _ {lent store last : List ℕ} {c : List Call} (d : Draft) (e : Entered d lent store none) (g : Leads c store last) where
  -- what the same role gets by planning after a history, and by planning the case of that history entered afresh into any store
  pub plans_afresh_by : {other fresh : List ℕ} → Entered (run c (entered d)).case other fresh none
      → (role p q f : ℕ) (r r' : Outcome) (before after after' : Slices) → PlannedBy role (held_in last) p q f r before after
      → PlannedBy role (held_in fresh) p q f r' before after' → (r ≡ r') × (after ≡ after')
  unfolding test31 refuse_if
  plans_afresh_by {other} {fresh} a role p q f r r' before after after' w w' =
      go (barred role (column plan) || (first plan && barred_first role)) refl
    where
      go : (b : Bool) → (barred role (column plan) || (first plan && barred_first role)) ≡ b → (r ≡ r') × (after ≡ after')
      go false n =
          plans_afresh d e g a p q f r r' before after after' (planned_from role (held_in last) p q f r before after (ap (refuse_if 31) n) w)
          (planned_from role (held_in fresh) p q f r' before after' (ap (refuse_if 31) n) w')
      go true n =
          let t : test31 role plan ≡ some (refused 31 0) = ap (refuse_if 31) n in
          let x : r ≡ refused 31 0 = w.answer ∙ ap (λ (z : Option Outcome). outcome_unless z (outcome_in (held_in last) p q f)) t in
          let y : r' ≡ refused 31 0 = w'.answer ∙ ap (λ (z : Option Outcome). outcome_unless z (outcome_in (held_in fresh) p q f)) t in
          (x ∙ sym y, w.kept 31 0 x ∙ sym (w'.kept 31 0 y))

module _ (h : List By) (lent store last : List ℕ) (l : List Heard) (d : Draft) (e : Entered d lent store none) (g : Goes h store last l) where
  -- what the store holds after a history by roles
  pub held_by_roles : held_in last ≡ some (run (calls_of h) (entered d))
  held_by_roles = held_last d e (goes_leads h store last l g)

  pub plans_afresh_by_roles : {other fresh : List ℕ} → Entered (run (calls_of h) (entered d)).case other fresh none
      → (role p q f : ℕ) (r r' : Outcome) (before after after' : Slices) → PlannedBy role (held_in last) p q f r before after
      → PlannedBy role (held_in fresh) p q f r' before after' → (r ≡ r') × (after ≡ after')
  plans_afresh_by_roles a = plans_afresh_by d e (goes_leads h store last l g) a
