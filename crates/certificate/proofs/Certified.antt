-- What an accepted certificate shows: its plan is the one promised (`Cheapest`), or no plan meets (TP), the runs and the ceilings. Assumes nothing.
use mathlib.Core.Path.{refl}
use mathlib.Core.List.{List}
use Prim.Native.Nat.{ℕ, ◌+◌, ◌≤◌, ◌<◌}
use native.Mathlib.Omega.{arith}
use lib.IntN.{ℤ, pos, ◌+ℤ◌}
use lib.Signed.{◌≤ℤ◌, ◌<ℤ◌, <ℤ-≤ℤ_trans}
use Rattle.problem.specs.Case.{Case, supply, entry, all_demand, depot_stock, lowest_split, highest_split}
use Rattle.problem.specs.Plans.{row_sum, MeetsTP, PlanAt, plan_total}
use Rattle.problem.specs.Promise.{Cheapest, NoPlan}
use Rattle.problem.proofs.Integers.{above_pos}
use Rattle.problem.proofs.Splits.{split_of, split_within, balance}
use Rattle.bounds_problem.proofs.IntegerOrder.{difference, as_naturals, ≤ℤ_trans}
use Rattle.certificate.specs.Bound.{bound_at, Shown, none, dearer, Accepted, NoneShown}
use Rattle.certificate.proofs.WeakDuality.{above, at_most, weak_duality, no_plan_at}

-- the same entry on both sides
with_entry : (z w : ℤ) (e : ℕ) → z ≤ℤ w → (z +ℤ pos e) ≤ℤ (w +ℤ pos e)
with_entry z w e h = at_most (above_pos e (above z)) (above_pos e (above w)) (omega (arith, as_naturals (difference z) (difference w) h))

module _ (a : Case) (two : 2 ≤ a.m) where
  -- a plan that meets (TP) is at its own split, within supplies and runs
  at_split : (z : List ℕ) → MeetsTP a z → PlanAt a (row_sum a z 0) z × (lowest_split a ≤ row_sum a z 0) × (row_sum a z 0 ≤ highest_split a)
  at_split z m = let s = split_of a z two m in let w = split_within a (row_sum a z 0) s.one in (s.plan_at, w.0, w.1)

  -- at its split the bound is at most its total
  below_total : (p q : ℕ → ℤ) (z : List ℕ) → MeetsTP a z → (bound_at a p q (row_sum a z 0) +ℤ pos (entry a (row_sum a z 0))) ≤ℤ plan_total a z
  unfolding plan_total
  below_total p q z m = with_entry _ _ (entry a (row_sum a z 0)) (weak_duality a p q (row_sum a z 0) z (at_split z m).0)

  module _ (x : List ℕ) (p q : ℕ → ℕ → ℤ) (c : Accepted a x p q) where
    shown_at : (z : List ℕ) → MeetsTP a z → Shown a (row_sum a x 0) (plan_total a x) (p (row_sum a z 0)) (q (row_sum a z 0)) (row_sum a z 0)
    shown_at z m = let s = at_split z m in c.shown (row_sum a z 0) s.1 s.2

    -- an accepted certificate's plan is the one promised: no plan is cheaper, none with a smaller split is as cheap
    pub accepted_cheapest : Cheapest a x (row_sum a x 0) (plan_total a x)
    accepted_cheapest = record {
      plan = c.plan;
      own_split = refl;
      own_total = refl;
      least = λ z m. least z m (shown_at z m);
      smaller = λ z m l. smaller z m l (shown_at z m);
    }
      where
        least : (z : List ℕ) (m : MeetsTP a z)
            → Shown a (row_sum a x 0) (plan_total a x) (p (row_sum a z 0)) (q (row_sum a z 0)) (row_sum a z 0) → plan_total a x ≤ℤ plan_total a z
        least z m (none h) = absurd (no_plan_at a _ _ (row_sum a z 0) z h (at_split z m).0)
        least z m (dearer h l) = ≤ℤ_trans h (below_total _ _ z m)

        smaller : (z : List ℕ) (m : MeetsTP a z) → row_sum a z 0 < row_sum a x 0
            → Shown a (row_sum a x 0) (plan_total a x) (p (row_sum a z 0)) (q (row_sum a z 0)) (row_sum a z 0) → plan_total a x <ℤ plan_total a z
        smaller z m g (none h) = absurd (no_plan_at a _ _ (row_sum a z 0) z h (at_split z m).0)
        smaller z m g (dearer h l) = <ℤ-≤ℤ_trans (l g) (below_total _ _ z m)

  -- no plan: by a cut at each split (27), by a sum (7 and 8)
  pub none_shown : (p q : ℕ → ℕ → ℤ) → NoneShown a p q → NoPlan a
  none_shown p q h z m = let s = at_split z m in no_plan_at a _ _ (row_sum a z 0) z (h (row_sum a z 0) s.1 s.2) s.0

  pub too_little : all_demand a < depot_stock a + a.run1 + a.run2 → NoPlan a
  too_little h z m = omega (arith, balance a z two m, m.runs1, m.runs2)

  pub too_much : supply a 0 + supply a 1 + depot_stock a < all_demand a → NoPlan a
  too_much h z m = omega (arith, balance a z two m, m.plant1, m.plant2)
