-- The tests before the balance: what each step of their function says of all. Assumes nothing.
use mathlib.Core.Path.{◌≡◌, refl, sym, ap, ◌∙◌}
use mathlib.Core.Bool.{Bool, true, false, not, ◌||◌, cond}
use mathlib.Core.Option.{Option, none, some}
use mathlib.Core.Logic.{◌⊎◌, inl, inr}
use Prim.Native.Nat.{ℕ, ◌+◌, ◌-◌, ◌*◌, ◌≤◌}
use native.Mathlib.Nat.{mul-le-mul}
use native.Mathlib.Omega.{arith}
use lib.Dec.{ltb, eqb}
use lib.ListN.{length, get_or}
use borrow.Author.Tests.{le-ltb, eq-eqb, ne_eqb, ltb-false}
use Rattle.problem.specs.Case.{Case, supply}
use Rattle.problem.specs.Outcome.{Outcome, refused, first_from, ◌or_else◌, form_refusal, test1, test2, test3, test4, test23, test5, test26, test6}
use Rattle.size.specs.Size.{checked_of}
use Rattle.size.specs.declared.limits.Size.{Size}
use Rattle.std.specs.Prelude.{Result, Ok, Err}
use Rattle.refusal.specs.Number.{number_of}
use Rattle.refusal.specs.declared.Cause.{Cause}
use Rattle.refusal.specs.declared.Cause.TheVariants.{Sources, Terminals}
use Rattle.problem.specs.inner.LentTests.{first_outside, amounts_refusal, runs_refusal, ceilings_refusal}
use Rattle.problem.specs.Range.{outside}
use lib.IntN.{pos}
use Rattle.problem.proofs.FirstFailing.{moved, first_moved}
use Rattle.problem.proofs.TestsPassed.{first_decides, second_decides, either_first, either_second}
use Rattle.problem.proofs.TestParts.{or_true, met, unmet, at_place, no_place, moved_some, moved_none}

pub record Limits (m n : ℕ) : Type 0 where
  pub two : 2 ≤ m
  pub sources : m ≤ 32
  pub one : 1 ≤ n
  pub terminals : n ≤ 64

-- within the limits there are at most 2,048 lanes
pub lanes : {m n : ℕ} → Limits m n → m * n ≤ 2048
lanes h = mul-le-mul h.sources h.terminals

-- ---- the size

module _ (c : Case) where
  pub sized_1 : 2 ≤ c.m → c.m ≤ 32 → test1 c ≡ none
  unfolding test1
  sized_1 a b = unmet 1 _ (simp (le-ltb c.m 2 a, le-ltb 32 c.m b))

  pub sized_2 : 1 ≤ c.n → c.n ≤ 64 → test2 c ≡ none
  unfolding test2
  sized_2 a b = unmet 2 _ (simp (le-ltb c.n 1 a, le-ltb 64 c.n b))

  -- test 5 by the list's own indices
  pub fifth : length c.costs ≡ c.m * c.n → first_from (λ p. outside (get_or c.costs (p - 1) (pos 0))) 1 (c.m * c.n) ≡ moved 1 0 (first_outside c.costs)
  unfolding first_outside
  fifth e =
      first_moved (λ p. outside (get_or c.costs (p - 1) (pos 0))) (λ k. outside (get_or c.costs k (pos 0))) 1 0 (c.m * c.n)
      (λ t h. ap (λ (k : ℕ). outside (get_or c.costs k (pos 0))) (let z : 1 + t - 1 ≡ 0 + t = omega arith in z))
      ∙ ap (λ (n : ℕ). moved 1 0 (first_from (λ k. outside (get_or c.costs k (pos 0))) 0 n)) (sym e)

  twenty_third : test23 c ≡ runs_refusal c.run1 c.run2 c.supplies
  unfolding test23 runs_refusal
  twenty_third = refl

  twenty_sixth : test26 c ≡ ceilings_refusal (c.m * c.n) c.ceilings
  unfolding test26 ceilings_refusal
  twenty_sixth = refl

  pub fourth : length c.supplies ≡ c.m → length c.demands ≡ c.n → test4 c ≡ amounts_refusal c.supplies c.demands
  unfolding test4 amounts_refusal
  fourth a b = rw (← a, ← b) refl

module _ (m n : ℕ) where
  pub in_limits : (z : Size) → checked_of m n ≡ Ok z → Limits m n
  unfolding checked_of
  in_limits z e = go (ltb m 2 || ltb 32 m) refl (ltb n 1 || ltb 64 n) refl e
    where
      go : (a : Bool) → (ltb m 2 || ltb 32 m) ≡ a → (b : Bool) → (ltb n 1 || ltb 64 n) ≡ b
          → cond a (Err Sources) (cond b (Err Terminals) (Ok (record { sources = m; terminals = n }))) ≡ Ok z → Limits m n
      go true ea b eb e = let z : ◌≡◌ {A = ℕ} 0 1 = cc in absurd (omega arith)
      go false ea true eb e = let z : ◌≡◌ {A = ℕ} 0 1 = cc in absurd (omega arith)
      go false ea false eb e =
          record {
            two = ltb-false m 2 (either_first (ltb m 2) (ltb 32 m) ea);
            sources = ltb-false 32 m (either_second (ltb m 2) (ltb 32 m) ea);
            one = ltb-false n 1 (either_first (ltb n 1) (ltb 64 n) eb);
            terminals = ltb-false 64 n (either_second (ltb n 1) (ltb 64 n) eb);
          }

-- ---- the steps of the function

module _ (c : Case) where
  pub by_size : (k : Cause) → checked_of c.m c.n ≡ Err k → form_refusal c ≡ some (refused (number_of k) 0)
  unfolding form_refusal checked_of test1 test2
  by_size k e = go (ltb c.m 2 || ltb 32 c.m) refl (ltb c.n 1 || ltb 64 c.n) refl e
    where
      go : (a : Bool) → (ltb c.m 2 || ltb 32 c.m) ≡ a → (b : Bool) → (ltb c.n 1 || ltb 64 c.n) ≡ b
          → cond {A = Result Size Cause} a (Err Sources) (cond b (Err Terminals) (Ok (record { sources = c.m; terminals = c.n }))) ≡ Err k
          → (test1 c or_else test2 c or_else test3 c or_else test4 c or_else test23 c or_else test5 c or_else test26 c or_else test6 c) ≡ some (refused (number_of k) 0)
      go true ea b eb e = let z : Sources ≡ k = cc in first_decides _ _ _ (met 1 _ ea ∙ ap (λ (i : Cause). some (refused (number_of i) 0)) z)
      go false ea true eb e = let z : Terminals ≡ k = cc in second_decides _ _ (unmet 1 _ ea) ∙ first_decides _ _ _ (met 2 _ eb ∙ ap (λ (i : Cause). some (refused (number_of i) 0)) z)
      go false ea false eb e = let z : ◌≡◌ {A = ℕ} 0 1 = cc in absurd (omega arith)

  module _ (h : Limits c.m c.n) where
    past_2 : (r : Option Outcome) → (test3 c or_else test4 c or_else test23 c or_else test5 c or_else test26 c or_else test6 c) ≡ r → form_refusal c ≡ r
    unfolding form_refusal
    past_2 r e = second_decides _ _ (sized_1 c h.two h.sources) ∙ second_decides _ _ (sized_2 c h.one h.terminals) ∙ e

    third_true : (not (eqb (length c.costs) (c.m * c.n)) || (not (eqb (length c.supplies) c.m) || not (eqb (length c.demands) c.n))) ≡ true → form_refusal c ≡ some (refused 3 0)
    unfolding test3
    third_true e = past_2 (some (refused 3 0)) (first_decides _ _ _ (met 3 _ e))

    by_costs : (length c.costs ≡ c.m * c.n → ⊥) → form_refusal c ≡ some (refused 3 0)
    by_costs e = third_true (simp (ne_eqb (length c.costs) (c.m * c.n) e))

    by_supplies : (length c.supplies ≡ c.m → ⊥) → form_refusal c ≡ some (refused 3 0)
    by_supplies e = third_true (simp (ne_eqb (length c.supplies) c.m e, or_true))

    by_demands : (length c.demands ≡ c.n → ⊥) → form_refusal c ≡ some (refused 3 0)
    by_demands e = third_true (simp (ne_eqb (length c.demands) c.n e, or_true))

    -- one of the three lengths is not the case's
    pub by_lengths : (length c.costs ≡ c.m * c.n → ⊥)
        ⊎ ((length c.costs ≡ c.m * c.n × (length c.supplies ≡ c.m → ⊥)) ⊎ (length c.costs ≡ c.m * c.n × length c.supplies ≡ c.m × (length c.demands ≡ c.n → ⊥)))
        → form_refusal c ≡ some (refused 3 0)
    by_lengths (inl e) = by_costs e
    by_lengths (inr (inl e)) = by_supplies e.1
    by_lengths (inr (inr e)) = by_demands e.2

    module _ (lc : length c.costs ≡ c.m * c.n) (ls : length c.supplies ≡ c.m) (ld : length c.demands ≡ c.n) where
      past_3 : (r : Option Outcome) → (test4 c or_else test23 c or_else test5 c or_else test26 c or_else test6 c) ≡ r → form_refusal c ≡ r
      unfolding test3
      past_3 r e = past_2 r (second_decides _ _ (unmet 3 _ (simp (eq-eqb (length c.costs) (c.m * c.n) lc, eq-eqb (length c.supplies) c.m ls, eq-eqb (length c.demands) c.n ld))) ∙ e)

      pub by_amounts : (r : Outcome) → amounts_refusal c.supplies c.demands ≡ some r → form_refusal c ≡ some r
      by_amounts r e = past_3 (some r) (first_decides _ _ _ (fourth c ls ld ∙ e))

      module _ (am : amounts_refusal c.supplies c.demands ≡ none) where
        past_4 : (r : Option Outcome) → (test23 c or_else test5 c or_else test26 c or_else test6 c) ≡ r → form_refusal c ≡ r
        past_4 r e = past_3 r (second_decides _ _ (fourth c ls ld ∙ am) ∙ e)

        pub by_runs : (r : Outcome) → runs_refusal c.run1 c.run2 c.supplies ≡ some r → form_refusal c ≡ some r
        by_runs r e = past_4 (some r) (first_decides _ _ _ (twenty_third c ∙ e))

        module _ (run : runs_refusal c.run1 c.run2 c.supplies ≡ none) where
          past_23 : (r : Option Outcome) → (test5 c or_else test26 c or_else test6 c) ≡ r → form_refusal c ≡ r
          past_23 r e = past_4 r (second_decides _ _ (twenty_third c ∙ run) ∙ e)

          pub by_cost : (k : ℕ) → first_outside c.costs ≡ some k → form_refusal c ≡ some (refused 5 (k + 1))
          unfolding test5
          by_cost k e = past_23 (some (refused 5 (k + 1))) (first_decides _ _ _ (at_place 5 (k + 1) _ (fifth c lc ∙ moved_some 1 0 k (k + 1) _ e (omega arith))))

          module _ (cheap : first_outside c.costs ≡ none) where
            past_5 : (r : Option Outcome) → (test26 c or_else test6 c) ≡ r → form_refusal c ≡ r
            unfolding test5
            past_5 r e = past_23 r (second_decides _ _ (no_place 5 _ (fifth c lc ∙ moved_none 1 0 _ cheap)) ∙ e)

            pub by_ceilings : (r : Outcome) → ceilings_refusal (c.m * c.n) c.ceilings ≡ some r → form_refusal c ≡ some r
            by_ceilings r e = past_5 (some r) (first_decides _ _ _ (twenty_sixth c ∙ e))

            module _ (cap : ceilings_refusal (c.m * c.n) c.ceilings ≡ none) where
              past_26 : (r : Option Outcome) → test6 c ≡ r → form_refusal c ≡ r
              past_26 r e = past_5 r (second_decides _ _ (twenty_sixth c ∙ cap) ∙ e)

              pub by_table : (length c.table ≡ supply c 0 + 1 → ⊥) → form_refusal c ≡ some (refused 6 0)
              unfolding test6
              by_table e = past_26 (some (refused 6 0)) (met 6 _ (simp (ne_eqb (length c.table) (supply c 0 + 1) e)))

              pub by_none : length c.table ≡ supply c 0 + 1 → form_refusal c ≡ none
              unfolding test6
              by_none e = past_26 none (unmet 6 _ (simp (eq-eqb (length c.table) (supply c 0 + 1) e)))
