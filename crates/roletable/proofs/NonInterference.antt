-- Depot and reader learn nothing of the production entries: what they get, and what their calls leave, is that of the case with every entry 0.
-- Assumes nothing.
use mathlib.Core.Path.{◌≡◌, refl, sym, ap, ap₂, ◌∙◌}
use mathlib.Core.Logic.{inl, inr}
use mathlib.Core.Bool.{Bool, true, false}
use mathlib.Core.Option.{Option, none, some}
use mathlib.Core.List.{List, ◌∷◌}
use Prim.Native.Nat.{ℕ}
use lib.Dec.{eqb}
use lib.IntN.{ℤ}
use lib.ListN.{length}
use Rattle.problem.specs.Outcome.{Outcome, refused, refuse_if, ◌or_else◌}
use Rattle.planner.specs.Answer.{Slices}
use Rattle.work_store.specs.State.{State}
use Rattle.work_store.specs.Calls.{Call, edit_demand, edit_supply, edit_cost, edit_entry, set_mark, go_back, least_run, refusal_in, acted, unless, step}
use Rattle.work_store.specs.Store.{held_in}
use Rattle.work_store.specs.Promise.{answer_to, steps}
use Rattle.work_plans.specs.Planning.{outcome_in, outcome_unless}
use Rattle.work_store.specs.Seeing.{tariff_refusal, tariff_answer, table_answer, limits_answer, marks_answer, costs_in, supplies_in, demands_in, table_in, runs_in, ceilings_in, flags_in, shown_unless}
use Rattle.roletable.specs.Roles.{no_role, barred, barred_first}
use Rattle.roletable.specs.Deeds.{work, see_tariff, see_table, plan, column, first, test31}
use Rattle.roletable.specs.Promise.{answer_by, unless_held, steps_by}
use Rattle.roletable.specs.Secrecy.{veiled, veiled_held, Alike, Outsider, Outside, ends, more, Asked, act, tariff, table, planning, mark_planning, limits, marks}
use Rattle.roletable.specs.Secrecy.{Heard, verdict, costs, entries, runs, flags, Did, Saw, Looked, Tried, TriedMark, SawLimits, SawMarks, Made, By, Goes}
use Rattle.roletable.specs.Secrecy as secrecy
use Rattle.roletable.proofs.Allowed.{told_first}

-- ---- one edit, mark or return

-- its answer and what it leaves, with the entries veiled
record Blind (role : ℕ) (call : Call) (o : Option State) : Type 0 where
  same_answer : answer_by role call o ≡ answer_by role call (veiled_held o)
  same_left : veiled_held (steps_by role call o) ≡ steps_by role call (veiled_held o)

-- a call that is refused whatever the store holds
by_bar : (role : ℕ) (call : Call) (r : Outcome) → test31 role (work call) ≡ some r → (o : Option State) → Blind role call o
unfolding steps_by
by_bar role call r e o = record {
  same_answer = told_first role call r o e ∙ sym (told_first role call r (veiled_held o) e);
  same_left = rw (e, steps_by) refl;
}

veiled_unless : (t : Option Outcome) (a b : State) → veiled (unless t a b) ≡ unless t (veiled a) (veiled b)
veiled_unless none a b = refl
veiled_unless (some r) a b = refl

veiled_held_lem : (t : Option Outcome) (a b : Option State) → veiled_held (unless_held t a b) ≡ unless_held t (veiled_held a) (veiled_held b)
veiled_held_lem none a b = refl
veiled_held_lem (some r) a b = refl

-- a call whose refusals and whose work do not read the entries
by_work : (role : ℕ) (call : Call) → ((s : State) → refusal_in call s ≡ refusal_in call (veiled s)) → ((s : State) → veiled (acted call s) ≡ acted call (veiled s))
    → (o : Option State) → Blind role call o
unfolding answer_by steps_by step
by_work role call e w none = record { same_answer = refl; same_left = veiled_held_lem (test31 role (work call)) none none }
by_work role call e w (some s) = record {
  same_answer = ap (λ (x : Option Outcome). test31 role (work call) or_else x) (e s);
  same_left =
      veiled_held_lem (test31 role (work call)) (some (unless (refusal_in call s) (acted call s) s)) (some s)
      ∙ ap (λ (x : State). unless_held (test31 role (work call)) (some x) (some (veiled s)))
      (veiled_unless (refusal_in call s) (acted call s) s ∙ ap₂ (λ (t : Option Outcome) (x : State). unless t x (veiled s)) (e s) (w s));
}

demand_blind : (role j v : ℕ) (o : Option State) → Blind role (edit_demand j v) o
unfolding refusal_in acted
demand_blind role j v = by_work role (edit_demand j v) (λ s. refl) (λ s. refl)

-- a depot's edit of a supply, a_1 barred
supply_blind : (i v : ℕ) (o : Option State) → Blind 3 (edit_supply i v) o
unfolding refusal_in acted least_run test31 column first refuse_if barred barred_first no_role
supply_blind i v o = go (eqb i 1) refl
  where
    go : (t : Bool) → eqb i 1 ≡ t → Blind 3 (edit_supply i v) o
    go true e = by_bar 3 (edit_supply i v) (refused 31 0) (rw e refl) o
    go false e = by_work 3 (edit_supply i v) (λ s. refl) (λ s. rw e refl) o

depot_blind : (call : Call) (o : Option State) → Blind 3 call o
unfolding test31 column first refuse_if barred no_role
depot_blind (edit_demand j v) o = demand_blind 3 j v o
depot_blind (edit_supply i v) o = supply_blind i v o
depot_blind (edit_cost i j v) o = by_bar 3 (edit_cost i j v) (refused 31 0) refl o
depot_blind (edit_entry y v) o = by_bar 3 (edit_entry y v) (refused 31 0) refl o
depot_blind (set_mark k) o = by_bar 3 (set_mark k) (refused 31 0) refl o
depot_blind (go_back k) o = by_bar 3 (go_back k) (refused 31 0) refl o

reader_blind : (call : Call) (o : Option State) → Blind 4 call o
unfolding test31 column first refuse_if barred no_role
reader_blind (edit_demand j v) o = by_bar 4 (edit_demand j v) (refused 31 0) refl o
reader_blind (edit_supply i v) o = by_bar 4 (edit_supply i v) (refused 31 0) refl o
reader_blind (edit_cost i j v) o = by_bar 4 (edit_cost i j v) (refused 31 0) refl o
reader_blind (edit_entry y v) o = by_bar 4 (edit_entry y v) (refused 31 0) refl o
reader_blind (set_mark k) o = by_bar 4 (set_mark k) (refused 31 0) refl o
reader_blind (go_back k) o = by_bar 4 (go_back k) (refused 31 0) refl o

blind : (role : ℕ) → Outsider role → (call : Call) (o : Option State) → Blind role call o
blind role (inl e) call o = rw e (depot_blind call o)
blind role (inr e) call o = rw e (reader_blind call o)

-- ---- seeing and planning

no_table : (role : ℕ) → Outsider role → test31 role see_table ≡ some (refused 31 0)
unfolding test31 column first refuse_if barred no_role
no_table role (inl e) = rw e refl
no_table role (inr e) = rw e refl

no_plan : (role : ℕ) → Outsider role → test31 role plan ≡ some (refused 31 0)
unfolding test31 column first refuse_if barred no_role
no_plan role (inl e) = rw e refl
no_plan role (inr e) = rw e refl

tariff_blind : (a b c : ℕ) (o : Option State) → tariff_answer a b c o ≡ tariff_answer a b c (veiled_held o)
unfolding tariff_refusal
tariff_blind a b c none = refl
tariff_blind a b c (some s) = refl

costs_blind : (o : Option State) → costs_in o ≡ costs_in (veiled_held o)
costs_blind none = refl
costs_blind (some s) = refl

supplies_blind : (o : Option State) → supplies_in o ≡ supplies_in (veiled_held o)
supplies_blind none = refl
supplies_blind (some s) = refl

demands_blind : (o : Option State) → demands_in o ≡ demands_in (veiled_held o)
demands_blind none = refl
demands_blind (some s) = refl

-- what reads no entry is the same of two that are alike
alike_same : {B : Type 0} (f : Option State → B) → ((o : Option State) → f o ≡ f (veiled_held o)) → (o p : Option State) → veiled_held o ≡ veiled_held p → f o ≡ f p
alike_same f h o p e = h o ∙ ap f e ∙ sym (h p)

module _ (role : ℕ) (out : Outsider role) (a b : List ℕ) (alike : Alike a b) where
  did_same : (call : Call) (a' b' : List ℕ) (x y : Heard) → Did role call a a' x → Did role call b b' y → (x ≡ y) × Alike a' b'
  did_same call a' b' x y p q =
      let e : p.r ≡ q.r = p.done.answer ∙ alike_same (answer_by role call) (λ o. (blind role out call o).same_answer) (held_in a) (held_in b) alike ∙ sym q.done.answer in (
        p.gets ∙ ap verdict e ∙ sym q.gets,
        ap veiled_held p.done.state ∙ (blind role out call (held_in a)).same_left ∙ ap (steps_by role call) alike
            ∙ sym (ap veiled_held q.done.state ∙ (blind role out call (held_in b)).same_left),
      )

  stay_alike : (a' b' : List ℕ) → a' ≡ a → b' ≡ b → Alike a' b'
  stay_alike a' b' e f = ap (λ (l : List ℕ). veiled_held (held_in l)) e ∙ alike ∙ sym (ap (λ (l : List ℕ). veiled_held (held_in l)) f)

  saw_same : (c : List ℤ) (s d a' b' : List ℕ) (x y : Heard) → Saw role c s d a a' x → Saw role c s d b b' y → (x ≡ y) × Alike a' b'
  saw_same c s d a' b' x y p q =
      let o = held_in a in
      let k = held_in b in
      let t : p.r ≡ q.r =
      p.seen.answer
      ∙ ap (λ (z : Option Outcome). test31 role see_tariff or_else z) (alike_same (tariff_answer (length c) (length s) (length d)) (tariff_blind (length c) (length s) (length d)) o k alike)
      ∙ sym q.seen.answer in
      let ec : p.c' ≡ q.c' = p.seen.costs ∙ ap₂ (λ (z : Option Outcome) (l : List ℤ). shown_unless z l c) t (alike_same costs_in costs_blind o k alike) ∙ sym q.seen.costs in
      let es : p.s' ≡ q.s' = p.seen.supplies ∙ ap₂ (λ (z : Option Outcome) (l : List ℕ). shown_unless z l s) t (alike_same supplies_in supplies_blind o k alike) ∙ sym q.seen.supplies in
      let ed : p.d' ≡ q.d' = p.seen.demands ∙ ap₂ (λ (z : Option Outcome) (l : List ℕ). shown_unless z l d) t (alike_same demands_in demands_blind o k alike) ∙ sym q.seen.demands in
      (p.gets ∙ all t ec es ed ∙ sym q.gets, stay_alike a' b' p.stays q.stays)
    where
      all : {r r' : Option Outcome} {c c' : List ℤ} {s s' d d' : List ℕ} → r ≡ r' → c ≡ c' → s ≡ s' → d ≡ d' → costs r c s d ≡ costs r' c' s' d'
      all er ec es ed = λ i. costs (er i) (ec i) (es i) (ed i)

  looked_same : (t a' b' : List ℕ) (x y : Heard) → Looked role t a a' x → Looked role t b b' y → (x ≡ y) × Alike a' b'
  unfolding ◌or_else◌
  looked_same t a' b' x y p q =
      let n = no_table role out in
      let e : p.r ≡ some (refused 31 0) = p.seen.answer ∙ ap (λ (z : Option Outcome). z or_else table_answer (length t) (held_in a)) n in
      let f : q.r ≡ some (refused 31 0) = q.seen.answer ∙ ap (λ (z : Option Outcome). z or_else table_answer (length t) (held_in b)) n in
      let g : p.t' ≡ t = p.seen.table ∙ ap (λ (z : Option Outcome). shown_unless z (table_in (held_in a)) t) e in
      let h : q.t' ≡ t = q.seen.table ∙ ap (λ (z : Option Outcome). shown_unless z (table_in (held_in b)) t) f in
      (p.gets ∙ ap₂ entries (e ∙ sym f) (g ∙ sym h) ∙ sym q.gets, stay_alike a' b' p.stays q.stays)

  tried_same : (old : Slices) (a' b' : List ℕ) (x y : Heard) → Tried role old a a' x → Tried role old b b' y → (x ≡ y) × Alike a' b'
  tried_same old a' b' x y p q =
      let n = no_plan role out in
      let e : p.r ≡ refused 31 0 = p.done.answer ∙ ap (λ (z : Option Outcome). outcome_unless z (outcome_in (held_in a) (length old.plan) (length old.splits) (length old.freights))) n in
      let f : q.r ≡ refused 31 0 = q.done.answer ∙ ap (λ (z : Option Outcome). outcome_unless z (outcome_in (held_in b) (length old.plan) (length old.splits) (length old.freights))) n in
      (p.gets ∙ ap₂ secrecy.plan (e ∙ sym f) (p.done.kept 31 0 e ∙ sym (q.done.kept 31 0 f)) ∙ sym q.gets, stay_alike a' b' p.stays q.stays)

  -- what 31 bars whatever the store holds
  barred_31 : (o : Option Outcome) → (test31 role plan or_else o) ≡ some (refused 31 0)
  unfolding ◌or_else◌
  barred_31 o = ap (λ (z : Option Outcome). z or_else o) (no_plan role out)

  tried_mark_same : (k : ℕ) (old : Slices) (a' b' : List ℕ) (x y : Heard) → TriedMark role k old a a' x → TriedMark role k old b b' y → (x ≡ y) × Alike a' b'
  tried_mark_same k old a' b' x y p q =
      let e : p.r ≡ refused 31 0 =
      p.done.answer
      ∙ ap (λ (z : Option Outcome). outcome_unless z (outcome_in (steps (go_back k) (held_in a)) (length old.plan) (length old.splits) (length old.freights)))
      (barred_31 (answer_to (go_back k) (held_in a))) in
      let f : q.r ≡ refused 31 0 =
      q.done.answer
      ∙ ap (λ (z : Option Outcome). outcome_unless z (outcome_in (steps (go_back k) (held_in b)) (length old.plan) (length old.splits) (length old.freights)))
      (barred_31 (answer_to (go_back k) (held_in b))) in
      (p.gets ∙ ap₂ secrecy.plan (e ∙ sym f) (p.done.kept 31 0 e ∙ sym (q.done.kept 31 0 f)) ∙ sym q.gets, stay_alike a' b' p.stays q.stays)

  limits_same : (u c a' b' : List ℕ) (x y : Heard) → SawLimits role u c a a' x → SawLimits role u c b b' y → (x ≡ y) × Alike a' b'
  limits_same u c a' b' x y p q =
      let e : p.r ≡ some (refused 31 0) = p.seen.answer ∙ barred_31 (limits_answer (length u) (length c) (held_in a)) in
      let f : q.r ≡ some (refused 31 0) = q.seen.answer ∙ barred_31 (limits_answer (length u) (length c) (held_in b)) in
      let gu : p.u' ≡ u = p.seen.runs ∙ ap (λ (z : Option Outcome). shown_unless z (runs_in (held_in a)) u) e in
      let hu : q.u' ≡ u = q.seen.runs ∙ ap (λ (z : Option Outcome). shown_unless z (runs_in (held_in b)) u) f in
      let gc : p.c' ≡ c = p.seen.ceilings ∙ ap (λ (z : Option Outcome). shown_unless z (ceilings_in (held_in a)) c) e in
      let hc : q.c' ≡ c = q.seen.ceilings ∙ ap (λ (z : Option Outcome). shown_unless z (ceilings_in (held_in b)) c) f in
      (p.gets ∙ all (e ∙ sym f) (gu ∙ sym hu) (gc ∙ sym hc) ∙ sym q.gets, stay_alike a' b' p.stays q.stays)
    where
      all : {r r' : Option Outcome} {u u' c c' : List ℕ} → r ≡ r' → u ≡ u' → c ≡ c' → runs r u c ≡ runs r' u' c'
      all er eu ec = λ i. runs (er i) (eu i) (ec i)

  marks_same : (l a' b' : List ℕ) (x y : Heard) → SawMarks role l a a' x → SawMarks role l b b' y → (x ≡ y) × Alike a' b'
  marks_same l a' b' x y p q =
      let e : p.r ≡ some (refused 31 0) = p.seen.answer ∙ barred_31 (marks_answer (length l) (held_in a)) in
      let f : q.r ≡ some (refused 31 0) = q.seen.answer ∙ barred_31 (marks_answer (length l) (held_in b)) in
      let g : p.f' ≡ l = p.seen.flags ∙ ap (λ (z : Option Outcome). shown_unless z (flags_in (held_in a)) l) e in
      let h : q.f' ≡ l = q.seen.flags ∙ ap (λ (z : Option Outcome). shown_unless z (flags_in (held_in b)) l) f in
      (p.gets ∙ ap₂ flags (e ∙ sym f) (g ∙ sym h) ∙ sym q.gets, stay_alike a' b' p.stays q.stays)

  -- one call: the same answer or refusal, the same cells in what is lent, and the stores stay alike
  pub same_heard : (ask : Asked) (a' b' : List ℕ) (x y : Heard) → Made role ask a a' x → Made role ask b b' y → (x ≡ y) × Alike a' b'
  same_heard (act call) a' b' x y p q = did_same call a' b' x y p q
  same_heard (tariff c s d) a' b' x y p q = saw_same c s d a' b' x y p q
  same_heard (table t) a' b' x y p q = looked_same t a' b' x y p q
  same_heard (planning old) a' b' x y p q = tried_same old a' b' x y p q
  same_heard (mark_planning k old) a' b' x y p q = tried_mark_same k old a' b' x y p q
  same_heard (limits u c) a' b' x y p q = limits_same u c a' b' x y p q
  same_heard (marks l) a' b' x y p q = marks_same l a' b' x y p q

-- two working cases alike but for production entries, in the case and its marks, give depot and reader the same answers and refusals to all calls of
-- theirs, and the same cells in what they lend, so long as nobody else calls between
pub non_interference : {h : List By} → Outside h → (a b a' b' : List ℕ) (l k : List Heard) → Alike a b → Goes h a a' l → Goes h b b' k → l ≡ k
unfolding Goes
non_interference ends a b a' b' l k e g q = g.1 ∙ sym q.1
non_interference (more {c} {h} o r) a b a' b' l k e g q =
    let s = same_heard c.role o a b e c.ask g.0 q.0 g.1 q.1 g.3 q.3 in
    g.5 ∙ ap₂ (λ (x : Heard) (t : List Heard). x ∷ t) s.0 (non_interference r g.0 q.0 a' b' g.2 q.2 s.1 g.4 q.4) ∙ sym q.5
