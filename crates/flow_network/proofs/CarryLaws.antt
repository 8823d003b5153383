-- The planner's answer to a network's case. Assumes nothing.
use mathlib.Core.Path.{◌≡◌, refl, sym, ap, ◌∙◌, subst}
use mathlib.Core.Logic.{◌⊎◌, inl, inr}
use mathlib.Core.Option.{none, some}
use mathlib.Core.List.{List}
use Prim.Native.Nat.{ℕ, ◌+◌, ◌*◌, ◌≤◌, ◌<◌, ◌^◌}
use native.Mathlib.Omega.{arith}
use lib.Dec.{ltb, leb→le}
use lib.IntN.{ℤ, pos, negsuc}
use lib.Signed.{mag}
use mir.Syntax.{w64}
use mir.Val.{to_z, of_z}
use borrow.Author.Tests.{le-ltb}
use Rattle.lent_case.specs.Lent.{case_of}
use Rattle.lent_case.specs.declared.Case.{Case as Lent}
use Rattle.problem.specs.Case.{Case, entry, least_split, steps}
use Rattle.problem.specs.Outcome.{Outcome, refused, refusal_of, outcome_of, form_refusal, test7, test8, test27, test9, test11}
use Rattle.problem.specs.Promise.{NoPlan, Bounded, Unbalanced, BalanceRule}
use Rattle.planner.specs.Answer.{Answered, Slices, outcome}
use Rattle.refusal.specs.Number.{number_of}
use Rattle.refusal.specs.declared.Refusal.{Refusal}
use Rattle.planner.specs.declared.Planned.{Planned}
use Rattle.flow_network.specs.declared.carry.Found.{Found}
use Rattle.std.specs.Prelude.{Option, Some, None, Result, Ok, Err}
use Rattle.std.specs.Result.{result_ok}
use Rattle.flow_network.specs.inner.Found.{FoundAs}
use Rattle.problem.proofs.FirstFailing.{first_none, above_none, outside_none}
use Rattle.problem.proofs.TestsPassed.{Formed, second_decides, first_decides, refuse_if_cases}
use Rattle.problem.proofs.TestParts.{never_11, no_place, amounts_pass, runs_pass, ceilings_pass}
use Rattle.validation.proofs.FormTests.{by_none}
use Rattle.problem.proofs.Promise.{from7, from8, from27, from9, outcome_refused}
use Rattle.problem.proofs.MachineIntegers.{read_back}

-- ---- a case of the right form is refused for its balance alone

module _ (c : Case) (f : Formed c) where
  pub form_passes : form_refusal c ≡ none
  form_passes =
      by_none c (record { two = f.two_sources; sources = f.few_sources; one = f.one_terminal; terminals = f.few_terminals }) f.costs_long f.supplies_long f.demands_long
      (amounts_pass c.supplies c.demands (above_none 4000 c.supplies (λ k l. f.small_supply k (omega (arith, f.supplies_long))))
      (above_none 4000 c.demands (λ k l. f.small_demand k (omega (arith, f.demands_long)))))
      (runs_pass c.run1 c.run2 c.supplies f.first_run f.second_run)
      (outside_none c.costs (λ k l. f.cost_inside k (omega (arith, f.costs_long))))
      (ceilings_pass (c.m * c.n) c.ceilings f.ceilings_long (above_none 4000 c.ceilings (λ k l. f.ceiling_most k (omega (arith, f.ceilings_long)))))
      f.table_long

  module _ (small : (y : ℕ) → entry c y ≤ 1000000000) (room : 2048 ≤ c.plan_cells) (stops : 4001 ≤ c.split_cells) (freights : 4001 ≤ c.freight_cells) where
    ninth : test9 c ≡ none
    unfolding test9
    ninth = no_place 9 _ (first_none (λ y. ltb 1000000000 (entry c y)) (least_split c) (steps c + 1) (λ y a b. le-ltb 1000000000 (entry c y) (small y)))

    for_balance : (k p : ℕ) → outcome_of c ≡ refused k p → Unbalanced (refused k p)
    unfolding test7 test8 test27
    for_balance k p e = go (refuse_if_cases 7 _) (refuse_if_cases 8 _) (refuse_if_cases 27 _)
      where
        r : refusal_of c ≡ some (refused k p)
        r = outcome_refused c k p e

        one : (o : Outcome) → refusal_of c ≡ some o → refused k p ≡ o
        one o q = let z : some (refused k p) ≡ some o = sym r ∙ q in (cc)

        go : (test7 c ≡ none) ⊎ (test7 c ≡ some (refused 7 0)) → (test8 c ≡ none) ⊎ (test8 c ≡ some (refused 8 0)) → (test27 c ≡ none) ⊎ (test27 c ≡ some (refused 27 0)) → Unbalanced (refused k p)
        go (inr a) b d = inl (one (refused 7 0) (from7 c form_passes ∙ first_decides (test7 c) _ (refused 7 0) a))
        go (inl a) (inr b) d = inr (inl (one (refused 8 0) (from8 c form_passes a ∙ first_decides (test8 c) _ (refused 8 0) b)))
        go (inl a) (inl b) (inr d) = inr (inr (one (refused 27 0) (from27 c form_passes a b ∙ first_decides (test27 c) _ (refused 27 0) d)))
        go (inl a) (inl b) (inl d) =
            absurd (let q : some (refused k p) ≡ none = sym r ∙ from9 c form_passes a b d ∙ second_decides (test9 c) (test11 c) ninth ∙ never_11 c f room stops freights in
            let z : ◌≡◌ {A = ℕ} 0 1 = cc in
            omega arith)

    pub no_plan_there : (k p : ℕ) → outcome_of c ≡ refused k p → BalanceRule c (refused k p) → NoPlan c
    no_plan_there k p e r = r.no_plan form_passes (for_balance k p e)

-- ---- the answer told

pub bounded_fits : (t : ℤ) → Bounded t → mag t < 2 ^ 63
bounded_fits (pos n) h = omega (arith, leb→le n 129000000000 h.high.le)
bounded_fits (negsuc n) h = omega (arith, leb→le n 127999999999 h.low.le)

pub ok_of : (r : Result Planned Refusal) (p : Planned) → Some p ≡ result_ok r → r ≡ Ok p
ok_of (Ok x) p h = cc
ok_of (Err e) p h = absurd (let q : ◌≡◌ {A = ℕ} 0 1 = cc in omega arith)

pub err_of : (r : Result Planned Refusal) → None ≡ result_ok r → (e : Refusal) × (r ≡ Err e)
err_of (Ok x) h = absurd (let q : ◌≡◌ {A = ℕ} 0 1 = cc in omega arith)
err_of (Err e) h = (e, refl)

module _ (q : Lent) (pc sc fc : ℕ) (pe : pc ≡ 2048) (se : sc ≡ 4001) (fe : fc ≡ 4001) (r : Result Planned Refusal) (before after : Slices)
    (a : Answered (case_of q pc sc fc) (outcome r) before after) where
  here : (z : Option Found) → FoundAs (case_of q pc sc fc) before.plan after.plan z
      → FoundAs (case_of q 2048 4001 4001) before.plan after.plan z
  here z h =
      subst (λ (k : ℕ). FoundAs (case_of q k 4001 4001) before.plan after.plan z) pe
      (subst (λ (k : ℕ). FoundAs (case_of q pc k 4001) before.plan after.plan z) se
      (subst (λ (k : ℕ). FoundAs (case_of q pc sc k) before.plan after.plan z) fe h))

  -- the total as the machine hands it on
  pub found_some : (p : Planned) → r ≡ Ok p
      → FoundAs (case_of q 2048 4001 4001) before.plan after.plan (Some (record { split = p.split; total = to_z w64 (of_z w64 p.total) }))
  found_some p e =
      let w = a.written p.split p.total p.freight p.stops (ap outcome e) in
      subst (λ (z : ℤ). FoundAs (case_of q 2048 4001 4001) before.plan after.plan (Some (record { split = p.split; total = z })))
      (sym (read_back p.total (bounded_fits p.total w.bounded)))
      (here (Some (record { split = p.split; total = p.total })) (w.cheapest, w.cells, w.bounded))

  pub found_none : (k : Refusal) → r ≡ Err k → FoundAs (case_of q 2048 4001 4001) before.plan after.plan None
  found_none k e =
      here None (
        ap (λ (s : Slices). s.plan) (a.kept (number_of k.cause) k.place (ap outcome e)),
        number_of k.cause,
        k.place,
        sym a.answer ∙ ap outcome e,
        subst (BalanceRule (case_of q pc sc fc)) (ap outcome e) a.balance,
      )
