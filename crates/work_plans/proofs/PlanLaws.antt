-- Planning from the store. Assumes nothing.
use mathlib.Core.Path.{◌≡◌, refl, sym, ap, ap₂, ◌∙◌, subst}
use mathlib.Core.Bool.{false}
use mathlib.Core.Option.{Option, none, some}
use mathlib.Core.List.{List, map}
use Prim.Native.Nat.{ℕ, ◌+◌, ◌-◌, ◌*◌}
use native.Mathlib.Omega.{arith}
use lib.IntN.{ℤ}
use lib.ListN.{length, get_or, take, drop}
use Rattle.problem.specs.Case.{Case, lent}
use Rattle.problem.specs.Outcome.{Outcome, refused}
use Rattle.planner.specs.Answer.{Slices, Answered}
use Rattle.std.specs.Prelude.{Ok, Err}
use Rattle.refusal.specs.declared.Cause.TheVariants.{Room}
use Rattle.work_store.specs.State.{Draft, State, lent_with}
use Rattle.work_store.specs.Calls.{go_back, unset, held, refusal_in, acted, unless, step}
use Rattle.work_store.specs.Store.{cells_for, supplies_at, demands_at, costs_at, ceilings_at, table_at, in_case, width, slot, draft_in, cost_in, entries_in, state_at, sources, terminals, held_in}
use Rattle.work_store.specs.Promise.{answer_to, steps}
use Rattle.work_plans.specs.Planning.{outcome_in, outcome_unless, PlannedFrom, PlannedUnless, MarkPlanned}
use Rattle.work_store.specs.inner.OpenStore.{laid, opened_of, Open, Front}
use Rattle.work_store.proofs.ListParts.{part_length}
use Rattle.work_store.proofs.OpenStore.{is_shut, is_found, found_size}
use Rattle.work_store.proofs.CaseCells.{front_cells, front_room}
use Rattle.work_store.proofs.CallPromise.{held_none, held_some}
use Rattle.work_store.proofs.Slots.{slot_front}
use Rattle.work_store.proofs.StateAfterWrites.{mark_held}
use Rattle.work_store.proofs.SeeLaws.{held_is}

module _ (m n : ℕ) (cells : List ℕ) (o : Front m n cells) (a b c d e : ℕ) (ea : a ≡ in_case (demands_at m)) (eb : b ≡ in_case (costs_at m n))
    (ec : c ≡ in_case (ceilings_at m n)) (ed : d ≡ in_case (table_at m n)) (ee : e ≡ entries_in cells) where
  -- the cells of the unit costs
  pub lanes_long : length (take (c - b) (drop b cells)) ≡ m * n
  lanes_long =
      let k : c - b ≡ m * n = omega arith in
      part_length (c - b) b cells (omega (arith, front_room m n cells o)) ∙ k

  -- what is lent to the planner
  lent_cells : (p q f lanes : ℕ) (costs : List ℤ) → lanes ≡ m * n → take (length (take (c - b) (drop b cells))) costs ≡ map cost_in (take (c - b) (drop b cells))
      → lent m n (get_or cells (in_case 0) 0) (get_or cells (in_case 1) 0) (take (lanes - 0) (drop 0 costs))
      (take (a - in_case supplies_at) (drop (in_case supplies_at) cells)) (take (b - a) (drop a cells)) (take (d - c) (drop c cells))
      (take (d + e - d) (drop d cells)) p q f
      ≡ lent_with (draft_in m n (slot m n 0 cells)) p q f
  lent_cells p q f lanes costs el h =
      let u : a - in_case supplies_at ≡ m = omega arith in
      let v : b - a ≡ n = omega arith in
      let w : d - c ≡ m * n = omega arith in
      let x : d + e - d ≡ entries_in cells = omega arith in
      let y : c - b ≡ m * n = omega arith in
      let g : take (lanes - 0) (drop 0 costs) ≡ map cost_in (take (m * n) (drop (in_case (costs_at m n)) cells)) =
      ap (λ (k : ℕ). take k costs) (let z : lanes - 0 ≡ length (take (c - b) (drop b cells)) = omega (arith, lanes_long) in z) ∙ h ∙ ap₂ (λ (i j : ℕ). map cost_in (take i (drop j cells))) y eb in
      let g2 : take (a - in_case supplies_at) (drop (in_case supplies_at) cells) ≡ take m (drop (in_case supplies_at) cells) = ap (λ (k : ℕ). take k (drop (in_case supplies_at) cells)) u in
      let g3 : take (b - a) (drop a cells) ≡ take n (drop (in_case (demands_at m)) cells) = ap₂ (λ (i j : ℕ). take i (drop j cells)) v ea in
      let g4 : take (d - c) (drop c cells) ≡ take (m * n) (drop (in_case (ceilings_at m n)) cells) = ap₂ (λ (i j : ℕ). take i (drop j cells)) w ec in
      let g5 : take (d + e - d) (drop d cells) ≡ take (entries_in cells) (drop (in_case (table_at m n)) cells) = ap₂ (λ (i j : ℕ). take i (drop j cells)) x ed in
      rw (g, g2, g3, g4, g5) (sym (ap (λ (z : Draft). lent_with z p q f) (front_cells m n cells o)))

  pub planned_cells : (p q f lanes : ℕ) (costs : List ℤ) (r : Outcome) (before after : Slices) → lanes ≡ m * n
      → take (length (take (c - b) (drop b cells))) costs ≡ map cost_in (take (c - b) (drop b cells))
      → Answered
      (lent m n (get_or cells (in_case 0) 0) (get_or cells (in_case 1) 0) (take (lanes - 0) (drop 0 costs))
      (take (a - in_case supplies_at) (drop (in_case supplies_at) cells)) (take (b - a) (drop a cells)) (take (d - c) (drop c cells))
      (take (d + e - d) (drop d cells)) p q f)
      r before after
      → Answered (lent_with (draft_in m n (slot m n 0 cells)) p q f) r before after
  planned_cells p q f lanes costs r before after el h w = subst (λ (x : Case). Answered x r before after) (lent_cells p q f lanes costs el h) w

-- ---- what planning promises

some_eq : (s t : State) (o : Option State) → o ≡ some s → o ≡ some t → s ≡ t
some_eq s t o a b = cc

module _ (p q f : ℕ) (cells : List ℕ) where
  pub plan_closed : (s : Slices) → opened_of cells ≡ Err Room → PlannedFrom (held_in cells) p q f (refused 11 0) s s
  plan_closed s c =
      let h = held_none cells (is_shut cells c) in
      record {
        answer = sym (ap (λ (o : Option State). outcome_in o p q f) h);
        work = λ x z. let g : ◌≡◌ {A = ℕ} 0 1 = cc in absurd (omega arith);
        kept = λ _ _ _. refl;
      }

  pub plan_work : (m n : ℕ) (r : Outcome) (before after : Slices) → opened_of cells ≡ Ok (laid m n) → Answered (lent_with (draft_in m n (slot m n 0 cells)) p q f) r before after
      → PlannedFrom (held_in cells) p q f r before after
  unfolding state_at
  plan_work m n r before after c a =
      let z = found_size cells m n c in
      let w : Answered (lent_with (state_at (sources cells) (terminals cells) cells).case p q f) r before after = rw (z.0, z.1) a in
      let h = held_some cells (is_found cells m n c) in
      record {
        answer = w.answer ∙ sym (ap (λ (o : Option State). outcome_in o p q f) h);
        work = λ s g. subst (λ (x : State). Answered (lent_with x.case p q f) r before after) (some_eq (state_at (sources cells) (terminals cells) cells) s (held_in cells) h g) w;
        kept = w.kept;
      }

-- ---- what planning a mark promises

pub refused_before : (t : Option Outcome) (held : Option State) (p q f a b : ℕ) (s : Slices) → t ≡ some (refused a b) → PlannedUnless t held p q f (refused a b) s s
refused_before t held p q f a b s e = record {
  answer = ap (λ (x : Option Outcome). outcome_unless x (outcome_in held p q f)) (sym e);
  work = λ x y z. let g : ◌≡◌ {A = ℕ} 0 1 = cc in absurd (omega arith);
  kept = λ _ _ _. refl;
}

not_refused : (t : Option Outcome) (s : State) (p q f : ℕ) (r : Outcome) (before after : Slices) → t ≡ none → Answered (lent_with s.case p q f) r before after
    → PlannedUnless t (some s) p q f r before after
not_refused t s p q f r before after e w = record {
  answer = w.answer ∙ sym (ap (λ (x : Option Outcome). outcome_unless x (outcome_in (some s) p q f)) e);
  work = λ x y z. subst (λ (a : State). Answered (lent_with a.case p q f) r before after) (some_eq s x (some s) refl z) w;
  kept = w.kept;
}

stepped : (k : ℕ) (s : State) → refusal_in (go_back k) s ≡ none → step (go_back k) s ≡ acted (go_back k) s
unfolding step
stepped k s e = ap (λ (t : Option Outcome). unless t (acted (go_back k) s) s) e

module _ (m n k : ℕ) (cells : List ℕ) (p q f : ℕ) where
  -- the case after going back is that of slot k
  back_case : refusal_in (go_back k) (state_at m n cells) ≡ none → unset ((state_at m n cells).marks k) ≡ false
      → draft_in m n (slot m n 0 (drop (k * width m n) cells)) ≡ (step (go_back k) (state_at m n cells)).case
  unfolding acted state_at
  back_case e u =
      ap (draft_in m n) (slot_front m n k cells)
      ∙ sym (ap (λ (s : State). s.case) (stepped k (state_at m n cells) e) ∙ mark_held m n cells k (draft_in m n (slot m n 0 cells)) u)

  pub mark_planned : (w : ℕ) (l : List ℕ) (r : Outcome) (before after : Slices) → w ≡ width m n → l ≡ drop (k * w) cells
      → refusal_in (go_back k) (state_at m n cells) ≡ none → unset ((state_at m n cells).marks k) ≡ false
      → Answered (lent_with (draft_in m n (slot m n 0 l)) p q f) r before after → MarkPlanned k (some (state_at m n cells)) p q f r before after
  mark_planned w l r before after ew el e u a =
      not_refused (refusal_in (go_back k) (state_at m n cells)) (step (go_back k) (state_at m n cells)) p q f r before after e
      (subst (λ (d : Draft). Answered (lent_with d p q f) r before after)
      (ap (λ (x : List ℕ). draft_in m n (slot m n 0 x)) (el ∙ ap (λ (x : ℕ). drop (k * x) cells) ew) ∙ back_case e u) a)

  pub mark_closed : (s : Slices) → opened_of cells ≡ Err Room → MarkPlanned k (held_in cells) p q f (refused 11 0) s s
  mark_closed s c =
      refused_before (answer_to (go_back k) (held_in cells)) (steps (go_back k) (held_in cells)) p q f 11 0 s
      (ap (answer_to (go_back k)) (held_none cells (is_shut cells c)))

  pub mark_work : (r : Outcome) (before after : Slices) → opened_of cells ≡ Ok (laid m n) → MarkPlanned k (some (state_at m n cells)) p q f r before after
      → MarkPlanned k (held_in cells) p q f r before after
  mark_work r before after c a = subst (λ (o : Option State). MarkPlanned k o p q f r before after) (held_is cells m n c) a

-- an open store begins as a store does
pub open_front : (m n : ℕ) (cells : List ℕ) → Open m n cells → Front m n cells
unfolding cells_for
open_front m n cells o = record { few = o.few; many = o.many; room = omega (arith, o.room) }
