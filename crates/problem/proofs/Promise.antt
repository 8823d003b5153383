-- The promises of specs/Promise hold of the outcome that the definitions give. Assumes nothing.
use mathlib.Core.Path.{◌≡◌, refl, sym, ap, ap₂, ◌∙◌}
use lib.IntN.{ℤ, pos, ◌+ℤ◌}
use mathlib.Core.Logic.{◌⊎◌, inl, inr}
use mathlib.Core.Option.{Option, none, some}
use mathlib.Core.List.{List}
use Prim.Native.Nat.{ℕ}
use native.Mathlib.Omega.{arith}
use Rattle.problem.specs.Case.{Case, entry, least_split}
use Rattle.problem.specs.Plans.{row_sum, freight_of, PlanAt, plan_total, least_freight_at, total_at, best_split}
use Rattle.problem.specs.Outcome.{Outcome, refused, ◌or_else◌, form_refusal, refusal_of, plan_of, outcome_of, test7, test8, test27, test9, test11}
use Rattle.problem.specs.Promise.{Cheapest, NoPlan, Unbalanced, BalanceRule}
use Rattle.problem.proofs.TestsPassed.{first_decides, second_decides, Formed, formed, balanced, balanced_passes, refuse_if_cases, has_split_lem, split_passes, accepted}
use Rattle.problem.proofs.RefusalNumbers.{Late, later_tests, never10}
use Rattle.problem.proofs.Splits.{SplitOf, split_of, split_range, Fitting, fitting, fits_split, in_order, last_split, plan_exists, meets_between}
use Rattle.problem.proofs.Integers.{above_pos, above_at_most, above_below}
use Rattle.problem.proofs.RaisedCurve.{raised_total, low, freight_above, total_above, freight_met, best_split_lem, best_in}

-- ---- the refusals for balance

module _ (c : Case) where
  -- the tests that decide once 1 to 6 pass, once 1 to 7 do, and once 1 to 8 do
  pub from7 : form_refusal c ≡ none → refusal_of c ≡ (test7 c or_else test8 c or_else test27 c or_else test9 c or_else test11 c)
  unfolding refusal_of
  from7 e = second_decides (form_refusal c) _ e

  pub from8 : form_refusal c ≡ none → test7 c ≡ none → refusal_of c ≡ (test8 c or_else test27 c or_else test9 c or_else test11 c)
  from8 e e7 = from7 e ∙ second_decides (test7 c) _ e7

  pub from27 : form_refusal c ≡ none → test7 c ≡ none → test8 c ≡ none → refusal_of c ≡ (test27 c or_else test9 c or_else test11 c)
  from27 e e7 e8 = from8 e e7 ∙ second_decides (test8 c) _ e8

  pub from9 : form_refusal c ≡ none → test7 c ≡ none → test8 c ≡ none → test27 c ≡ none → refusal_of c ≡ (test9 c or_else test11 c)
  from9 e e7 e8 e27 = from27 e e7 e8 ∙ second_decides (test27 c) _ e27

  -- the outcome is a refusal exactly where a test refuses
  pub refused_outcome : (r : Outcome) → refusal_of c ≡ some r → outcome_of c ≡ r
  unfolding outcome_of
  refused_outcome r e = rw (e, outcome_of) refl

  pub outcome_refused : (k p : ℕ) → outcome_of c ≡ refused k p → refusal_of c ≡ some (refused k p)
  unfolding outcome_of plan_of
  outcome_refused k p e = step (refusal_of c) e
    where
      step : (o : Option Outcome) → (elim o [ some r ↦ r | none ↦ plan_of c ]) ≡ refused k p → o ≡ some (refused k p)
      step none q = let z : ◌≡◌ {A = ℕ} 0 1 = cc in absurd (omega arith)
      step (some r) q = ap some q

  -- and a plan where none does
  pub planned_outcome : refusal_of c ≡ none → outcome_of c ≡ plan_of c
  unfolding outcome_of
  planned_outcome e = rw (e, outcome_of) refl

-- refused by 7, 8 or 27
abbrev pub RefusedForBalance : Case → Type 0
RefusedForBalance c = (refusal_of c ≡ some (refused 7 0)) ⊎ ((refusal_of c ≡ some (refused 8 0)) ⊎ (refusal_of c ≡ some (refused 27 0)))

module _ (c : Case) (e : form_refusal c ≡ none) where
  -- of a case with a split no refusal is 7, 8 or 27
  balanced_later : test7 c ≡ none → test8 c ≡ none → test27 c ≡ none → (k p : ℕ) → refusal_of c ≡ some (refused k p) → Late k
  balanced_later e7 e8 e27 k p q = later_tests c k p (sym (from9 c e e7 e8 e27) ∙ q)

  pub refused_none : RefusedForBalance c → NoPlan c
  refused_none q x p = step q
    where
      s : SplitOf c x
      s = split_of c x (formed c e).two_sources p

      late : (k p : ℕ) → refusal_of c ≡ some (refused k p) → Late k
      late = let t = balanced_passes c s.balanced in balanced_later t.0 t.1 (split_passes c (fits_split c (row_sum c x 0) s.one))

      step : RefusedForBalance c → ⊥
      step (inl g) = omega (arith, late 7 0 g)
      step (inr (inl g)) = omega (arith, late 8 0 g)
      step (inr (inr g)) = omega (arith, late 27 0 g)

  -- tests 7, 8 and 27 pass or refuse
  cases7 : (test7 c ≡ none) ⊎ (test7 c ≡ some (refused 7 0))
  unfolding test7
  cases7 = refuse_if_cases 7 _

  cases8 : (test8 c ≡ none) ⊎ (test8 c ≡ some (refused 8 0))
  unfolding test8
  cases8 = refuse_if_cases 8 _

  cases27 : (test27 c ≡ none) ⊎ (test27 c ≡ some (refused 27 0))
  unfolding test27
  cases27 = refuse_if_cases 27 _

  pub none_refused : NoPlan c → RefusedForBalance c
  none_refused n = elim cases7 [
    | inl e7 ↦ elim cases8 [
      | inl e8 ↦ elim cases27 [
        | inl e27 ↦ absurd (no_case (fitting c (balanced c (formed c e) e7 e8) (has_split_lem c e27)))
        | inr g ↦ inr (inr (from27 c e e7 e8 ∙ first_decides (test27 c) _ (refused 27 0) g))
      ]
      | inr g ↦ inr (inl (from8 c e e7 ∙ first_decides (test8 c) _ (refused 8 0) g))
    ]
    | inr g ↦ inl (from7 c e ∙ first_decides (test7 c) _ (refused 7 0) g)
  ]
    where
      no_case : Fitting c → ⊥
      no_case t =
          let f = formed c e in
          let l = in_order f t in
          let p = plan_exists f t (least_split c) (omega arith) l in
          n p.0 (meets_between f t (least_split c) p.0 (omega arith) l p.1).plan

pub balance_rule : (c : Case) → BalanceRule c (outcome_of c)
balance_rule c = record {
  no_plan = λ e q. refused_none c e (back q);
  refuses = λ e n. forth (none_refused c e n);
}
  where
    back : Unbalanced (outcome_of c) → RefusedForBalance c
    back (inl g) = inl (outcome_refused c 7 0 g)
    back (inr (inl g)) = inr (inl (outcome_refused c 8 0 g))
    back (inr (inr g)) = inr (inr (outcome_refused c 27 0 g))

    forth : RefusedForBalance c → Unbalanced (outcome_of c)
    forth (inl g) = inl (refused_outcome c (refused 7 0) g)
    forth (inr (inl g)) = inr (inl (refused_outcome c (refused 8 0) g))
    forth (inr (inr g)) = inr (inr (refused_outcome c (refused 27 0) g))

-- no case is answered 10
pub never_10 : (c : Case) (p : ℕ) → outcome_of c ≡ refused 10 p → ⊥
never_10 c p e = never10 c 10 p (outcome_refused c 10 p e) refl

-- ---- the plan given

-- what the tests leave of an accepted case
pub accepted_fitting : (c : Case) → refusal_of c ≡ none → Formed c × Fitting c
accepted_fitting c e =
    let a = accepted c e in
    let f = formed c a.form in
    (f, fitting c (balanced c f a.t7 a.t8) (has_split_lem c a.t27))

-- an accepted case has a plan at the best split with freight f there
pub gets_plan : (c : Case) → refusal_of c ≡ none → (x : List ℕ) × PlanAt c (best_split c) x × (freight_of c x ≡ least_freight_at c (best_split c))
gets_plan c e =
    let a = accepted_fitting c e in
    let here = best_in a.0 a.1 in
    freight_met a.0 a.1 (best_split c) here.0 here.1

-- a plan at the best split with freight f there is cheapest, and its split is the smallest of least total
pub cheapest : (c : Case) (x : List ℕ) → refusal_of c ≡ none → PlanAt c (best_split c) x → freight_of c x ≡ least_freight_at c (best_split c)
    → Cheapest c x (best_split c) (total_at c (best_split c))
unfolding total_at plan_total raised_total
cheapest c x e p q =
    let a = accepted_fitting c e in
    let f = a.0 in
    let t = a.1 in
    let best = best_split_lem f t in
    let here = best_in f t in
    let met = meets_between f t (best_split c) x here.0 here.1 p in
    record {
      plan = met.plan;
      own_split = met.split;
      own_total = ap₂ (λ (v : ℤ) (y : ℕ). v +ℤ pos (entry c y)) q met.split;
      least = λ z m. let s = split_of c z f.two_sources m in let r = split_range f (row_sum c z 0) s.one in
          above_at_most (total_above f t (best_split c) here.0 here.1) (above_pos (entry c (row_sum c z 0)) (freight_above f (row_sum c z 0) z s.plan_at))
          (omega (arith, best.least (row_sum c z 0) r.0 (omega (arith, r.1, last_split f t)), low c (row_sum c z 0) z s.plan_at));
      smaller = λ z m l. let s = split_of c z f.two_sources m in let r = split_range f (row_sum c z 0) s.one in
          above_below (total_above f t (best_split c) here.0 here.1) (above_pos (entry c (row_sum c z 0)) (freight_above f (row_sum c z 0) z s.plan_at))
          (omega (arith, best.smallest (row_sum c z 0) r.0 l, low c (row_sum c z 0) z s.plan_at));
    }
