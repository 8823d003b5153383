-- After any history the working case passes the tests of entering: entered afresh, it is accepted. Assumes nothing.
use mathlib.Core.Path.{◌≡◌, refl, sym, ap, ap₂, ◌∙◌, subst}
use mathlib.Core.Bool.{Bool, true, false, cond, ◌||◌}
use mathlib.Core.Option.{Option, none, some}
use mathlib.Core.List.{List, [], ◌∷◌, ◌++◌}
use Prim.Native.Nat.{ℕ, ◌+◌, ◌-◌, ◌*◌, ◌≤◌, ◌<◌}
use native.Mathlib.Decide.{ℕ_discrete}
use native.Mathlib.Omega.{arith}
use lib.Dec.{eqb, ltb}
use lib.IntN.{ℤ, pos}
use lib.ListN.{length, get_or, set, replicate, length-set, length-append, length-replicate}
use lib.Seq.{get_or-set_same, get_or-set_other, length-take-le}
use borrow.Author.Tests.{ltb-false, eq-eqb, ne_eqb}
use Rattle.problem.specs.Range.{outside}
use Rattle.problem.specs.Outcome.{Outcome, refuse_if, ◌or_else◌, form_refusal}
use Rattle.problem.proofs.TestsPassed.{Formed, formed, first_passes, second_passes, second_decides, refuse_if_none}
use Rattle.problem.proofs.FirstFailing.{above_none, outside_none}
use Rattle.problem.proofs.TestParts.{amounts_pass, runs_pass, ceilings_pass}
use Rattle.validation.proofs.FormTests.{by_none}
use Rattle.work_store.specs.State.{Draft, State, lent_with, entered}
use Rattle.work_store.specs.Calls.{Call, edit_demand, edit_supply, edit_cost, edit_entry, set_mark, go_back}
use Rattle.work_store.specs.Calls.{refuse_when, absent, least_run, resized, refusal_in, acted, unless, step, run, edited, with_case, with_demand, with_supply, with_cost, with_entry, held}
use Rattle.work_store.specs.Store.{cells_for}
use Rattle.work_store.specs.Promise.{entry_refusal}
use Rattle.work_store.proofs.StateAfterWrites.{inside}
use Rattle.work_store.proofs.CallPromise.{when_none}

-- a case that the tests before the balance pass
abbrev Sound : Draft → Type 0
Sound d = Formed (lent_with d 0 0 0)

-- and the converse of what the tests leave
passes : (d : Draft) → Sound d → form_refusal (lent_with d 0 0 0) ≡ none
passes d f =
    by_none (lent_with d 0 0 0)
    (record { two = f.two_sources; sources = f.few_sources; one = f.one_terminal; terminals = f.few_terminals }) f.costs_long f.supplies_long f.demands_long
    (amounts_pass d.supplies d.demands (above_none 4000 d.supplies (λ k h. f.small_supply k (omega (arith, f.supplies_long))))
    (above_none 4000 d.demands (λ k h. f.small_demand k (omega (arith, f.demands_long)))))
    (runs_pass d.run1 d.run2 d.supplies f.first_run f.second_run)
    (outside_none d.costs (λ k h. f.cost_inside k (omega (arith, f.costs_long))))
    (ceilings_pass (d.m * d.n) d.ceilings f.ceilings_long (above_none 4000 d.ceilings (λ k h. f.ceiling_most k (omega (arith, f.ceilings_long)))))
    f.table_long

-- a store keeps what holds of every cell
set_each : {A : Type 0} (P : A → Type 0) (n : ℕ) (l : List A) (k : ℕ) (v z : A) → P v → length l ≡ n → ((j : ℕ) → j < n → P (get_or l j z)) → (j : ℕ) → j < n → P (get_or (set l k v) j z)
set_each P n l k v z pv e h j g = elim (ℕ_discrete j k) [
  | yes q ↦ subst P (sym (ap (λ (i : ℕ). get_or (set l k v) i z) q ∙ get_or-set_same l k v z (omega arith))) pv
  | no d ↦ subst P (sym (get_or-set_other l k j v z d)) (h j g)
]

-- what an edit must keep
sound : (d : Draft) (s w : List ℕ) (c : List ℤ) (t : List ℕ) → Sound d → length s ≡ d.m → length w ≡ d.n → length c ≡ d.m * d.n
    → ((i : ℕ) → i < d.m → get_or s i 0 ≤ 4000) → ((j : ℕ) → j < d.n → get_or w j 0 ≤ 4000) → d.run1 ≤ get_or s 0 0 → d.run2 ≤ get_or s 1 0
    → ((k : ℕ) → k < d.m * d.n → outside (get_or c k (pos 0)) ≡ false) → length t ≡ get_or s 0 0 + 1 → Sound (edited d s w c t)
sound d s w c t f ls lw lc hs hw r1 r2 hc lt = record {
  two_sources = f.two_sources;
  few_sources = f.few_sources;
  one_terminal = f.one_terminal;
  few_terminals = f.few_terminals;
  costs_long = lc;
  supplies_long = ls;
  demands_long = lw;
  small_supply = hs;
  small_demand = hw;
  first_run = r1;
  second_run = r2;
  cost_inside = hc;
  ceilings_long = f.ceilings_long;
  ceiling_most = f.ceiling_most;
  table_long = lt;
}

demand_sound : (d : Draft) (j v : ℕ) → v ≤ 4000 → Sound d → Sound (with_demand j v d)
demand_sound d j v small f =
    sound d d.supplies (set d.demands (j - 1) v) d.costs d.table f f.supplies_long (length-set d.demands (j - 1) v ∙ f.demands_long) f.costs_long
    f.small_supply (set_each (λ (x : ℕ). x ≤ 4000) d.n d.demands (j - 1) v 0 small f.demands_long f.small_demand) f.first_run f.second_run f.cost_inside f.table_long

cost_sound : (d : Draft) (i j : ℕ) (v : ℤ) → outside v ≡ false → Sound d → Sound (with_cost i j v d)
cost_sound d i j v e f =
    let k = (i - 1) * d.n + (j - 1) in
    sound d d.supplies d.demands (set d.costs k v) d.table f f.supplies_long f.demands_long (length-set d.costs k v ∙ f.costs_long)
    f.small_supply f.small_demand f.first_run f.second_run
    (set_each (λ (x : ℤ). outside x ≡ false) (d.m * d.n) d.costs k v (pos 0) e f.costs_long f.cost_inside) f.table_long

entry_sound : (d : Draft) (y v : ℕ) → Sound d → Sound (with_entry y v d)
entry_sound d y v f =
    sound d d.supplies d.demands d.costs (set d.table y v) f f.supplies_long f.demands_long f.costs_long f.small_supply f.small_demand
    f.first_run f.second_run f.cost_inside (length-set d.table y v ∙ f.table_long)

resized_length : (k : ℕ) (t : List ℕ) → length (resized k t) ≡ k
unfolding resized
resized_length k t =
    length-take-le k (t ++ replicate k 0) (omega (arith, length-append t (replicate k (let x : ℕ = 0 in x)), length-replicate k (let x : ℕ = 0 in x)))

-- a supply above its least run
module _ (d : Draft) (i v : ℕ) (one : 1 ≤ i) (run : least_run d i ≤ v) (f : Sound d) where
  first_run : d.run1 ≤ get_or (set d.supplies (i - 1) v) 0 0
  unfolding least_run
  first_run = elim (ℕ_discrete i 1) [
    | yes e ↦
        omega (
          arith,
          ap (λ (t : Bool). cond t d.run1 (cond (eqb i 2) d.run2 0)) (eq-eqb i 1 e),
          ap (λ (k : ℕ). get_or (set d.supplies k v) 0 0) (let z : i - 1 ≡ 0 = omega arith in z),
          get_or-set_same d.supplies 0 v 0 (omega (arith, f.supplies_long, f.two_sources)),
        )
    | no e ↦ omega (arith, get_or-set_other d.supplies (i - 1) 0 v 0 (λ z. omega arith), f.first_run)
  ]

  second_run : d.run2 ≤ get_or (set d.supplies (i - 1) v) 1 0
  unfolding least_run
  second_run = elim (ℕ_discrete i 2) [
    | yes e ↦
        omega (
          arith,
          ap₂ (λ (t u : Bool). cond t d.run1 (cond u d.run2 0)) (ne_eqb i 1 (λ z. omega arith)) (eq-eqb i 2 e),
          ap (λ (k : ℕ). get_or (set d.supplies k v) 1 0) (let z : i - 1 ≡ 1 = omega arith in z),
          get_or-set_same d.supplies 1 v 0 (omega (arith, f.supplies_long, f.two_sources)),
        )
    | no e ↦ omega (arith, get_or-set_other d.supplies (i - 1) 1 v 0 (λ z. e (omega arith)), f.second_run)
  ]

  table_long : length (cond (eqb i 1) (resized (v + 1) d.table) d.table) ≡ get_or (set d.supplies (i - 1) v) 0 0 + 1
  table_long = elim (ℕ_discrete i 1) [
    | yes e ↦
        ap (λ (t : Bool). length (cond t (resized (v + 1) d.table) d.table)) (eq-eqb i 1 e) ∙ resized_length (v + 1) d.table
        ∙ ap (λ (k : ℕ). k + 1)
        (sym (ap (λ (k : ℕ). get_or (set d.supplies k v) 0 0) (let z : i - 1 ≡ 0 = omega arith in z) ∙ get_or-set_same d.supplies 0 v 0 (omega (arith, f.supplies_long, f.two_sources))))
    | no e ↦
        ap (λ (t : Bool). length (cond t (resized (v + 1) d.table) d.table)) (ne_eqb i 1 e) ∙ f.table_long
        ∙ ap (λ (k : ℕ). k + 1) (sym (get_or-set_other d.supplies (i - 1) 0 v 0 (λ z. omega arith)))
  ]

  supply_sound : v ≤ 4000 → Sound (with_supply i v d)
  supply_sound small =
      sound d (set d.supplies (i - 1) v) d.demands d.costs (cond (eqb i 1) (resized (v + 1) d.table) d.table) f
      (length-set d.supplies (i - 1) v ∙ f.supplies_long) f.demands_long f.costs_long
      (set_each (λ (x : ℕ). x ≤ 4000) d.m d.supplies (i - 1) v 0 small f.supplies_long f.small_supply) f.small_demand first_run second_run f.cost_inside table_long

-- a sound case of a size
record Whole (m n : ℕ) (d : Draft) : Type 0 where
  sound_case : Sound d
  sources : d.m ≡ m
  terminals : d.n ≡ n

-- the case and its marks
record Kept (m n : ℕ) (s : State) : Type 0 where
  case : Whole m n s.case
  marks : (k : ℕ) (d : Draft) → s.marks k ≡ some d → Whole m n d

module _ (m n : ℕ) where
  held_whole : (o : Option Draft) (d : Draft) → ((k : Draft) → o ≡ some k → Whole m n k) → Whole m n d → Whole m n (held o d)
  held_whole none d h f = f
  held_whole (some k) d h f = h k refl

  edited_kept : (s : State) (d : Draft) → Kept m n s → Sound d → d.m ≡ s.case.m → d.n ≡ s.case.n → Kept m n (with_case d s)
  edited_kept s d k f a b = record {
    case = record { sound_case = f; sources = a ∙ k.case.sources; terminals = b ∙ k.case.terminals };
    marks = k.marks;
  }

  acted_kept : (call : Call) (s : State) → refusal_in call s ≡ none → Kept m n s → Kept m n (acted call s)
  unfolding refusal_in acted
  acted_kept (edit_demand j v) s e k =
      edited_kept s (with_demand j v s.case) k
      (demand_sound s.case j v (ltb-false 4000 v (when_none 4 (s.case.m + j) (ltb 4000 v) (second_passes (refuse_if 24 (absent j s.case.n)) _ e))) k.case.sound_case)
      refl refl
  acted_kept (edit_supply i v) s e k =
      let d = s.case in
      let a = refuse_if 24 (absent i d.m) in
      let b = refuse_when 4 i (ltb 4000 v) in
      let c = refuse_when 23 i (ltb v (least_run d i)) in
      let rest = second_passes a (b or_else c) e in
      edited_kept s (with_supply i v d) k
      (supply_sound d i v (inside i d.m (refuse_if_none 24 (absent i d.m) (first_passes a (b or_else c) e))).0
      (ltb-false v (least_run d i) (when_none 23 i (ltb v (least_run d i)) (second_passes b c rest))) k.case.sound_case
      (ltb-false 4000 v (when_none 4 i (ltb 4000 v) (first_passes b c rest))))
      refl refl
  acted_kept (edit_cost i j v) s e k =
      edited_kept s (with_cost i j v s.case) k
      (cost_sound s.case i j v (when_none 5 ((i - 1) * s.case.n + j) (outside v) (second_passes (refuse_if 24 (absent i s.case.m || absent j s.case.n)) _ e)) k.case.sound_case)
      refl refl
  acted_kept (edit_entry y v) s e k = edited_kept s (with_entry y v s.case) k (entry_sound s.case y v k.case.sound_case) refl refl
  acted_kept (set_mark i) s e k = record {
    case = k.case;
    marks = λ j d h. marked (eqb j i) (s.marks j) d h (λ g. k.marks j d g);
  }
    where
      marked : (t : Bool) (o : Option Draft) (d : Draft) → cond t (some s.case) o ≡ some d → (o ≡ some d → Whole m n d) → Whole m n d
      marked true o d h g = let z : s.case ≡ d = cc in subst (Whole m n) z k.case
      marked false o d h g = g h
  acted_kept (go_back i) s e k = record { case = held_whole (s.marks i) s.case (λ d h. k.marks i d h) k.case; marks = k.marks }

  step_kept : (call : Call) (s : State) → Kept m n s → Kept m n (step call s)
  unfolding step
  step_kept call s k = go (refusal_in call s) refl
    where
      go : (o : Option Outcome) → refusal_in call s ≡ o → Kept m n (unless o (acted call s) s)
      go none e = acted_kept call s e k
      go (some r) e = k

  run_kept : (h : List Call) (s : State) → Kept m n s → Kept m n (run h s)
  unfolding run
  run_kept [] s k = k
  run_kept (c ∷ h) s k = run_kept h (step c s) (step_kept c s k)

-- a case that a store accepts is accepted by it again after any history
pub accepted_again : (h : List Call) (d : Draft) (cells : ℕ) → entry_refusal d cells ≡ none → entry_refusal (run h (entered d)).case cells ≡ none
unfolding entry_refusal
accepted_again h d cells e =
    let room = refuse_if 11 (ltb cells (cells_for d.m d.n)) in
    let w = (run_kept d.m d.n h (entered d) (record {
      case = record { sound_case = formed (lent_with d 0 0 0) (first_passes (form_refusal (lent_with d 0 0 0)) room e); sources = refl; terminals = refl };
      marks = λ k x q. let z : ◌≡◌ {A = ℕ} 0 1 = cc in absurd (omega arith);
    })).case in
    second_decides _ _ (passes (run h (entered d)).case w.sound_case)
    ∙ ap₂ (λ (m n : ℕ). refuse_if 11 (ltb cells (cells_for m n))) w.sources w.terminals ∙ second_passes (form_refusal (lent_with d 0 0 0)) room e
