-- With 4,000 on every lane nothing changes: the outcome, the stops with f at each, the plan for everybody, and which plans count are those defined
-- without ceilings.
-- Assumes nothing.
use mathlib.Core.Path.{◌≡◌, refl, ap, ap₂, ◌∙◌, fun_ext}
use mathlib.Core.Option.{Option, none, some}
use mathlib.Core.List.{List, map, Memᴰ}
use Prim.Native.Nat.{ℕ, ◌+◌, ◌-◌, ◌*◌, ◌≤◌, ◌<◌}
use native.Mathlib.Omega.{arith}
use lib.Dec.{ltb}
use lib.IntN.{ℤ, pos, ◌+ℤ◌}
use lib.ListN.{length, get_or, replicate, length-replicate, get_or-replicate}
use Rattle.transport.specs.Sum.{sum}
use Rattle.transport.specs.Plan.{by_row}
use Rattle.transport.specs.Listing.{select}
use Rattle.transport.specs.Curve.{amounts_at}
use Rattle.transport.specs.Canonical.{first}
use Rattle.transport.proofs.WithinCeilings.{wide_under, listing_same}
use Rattle.transport.proofs.Splits.{wide_has, member_splits}
use Rattle.transport.proofs.WideCeilings.{wide_splits}
use Rattle.problem.specs.Integer.{eq_z, leastℤ}
use Rattle.problem.specs.Freight.{rates_by_row, freightℤ, least_freightℤ, least_atℤ, canonicalℤ, stops_ofℤ, best_fromℤ}
use Rattle.problem.specs.Case.{Case, supply, demand, ceiling, entry, all_demand, made, lowest_split, highest_split, splits, least_split, greatest_split, steps}
use Rattle.problem.specs.Plans.{column_sum, MeetsTP, least_freight_at, plan_for, total_at, best_split, stops, stop_freights}
use Rattle.problem.specs.Outcome.{Outcome, planned, refuse_at, first_from, ◌or_else◌, form_refusal, refusal_of, plan_of, outcome_of, test1, test2}
use Rattle.problem.specs.Outcome.{test3, test4, test23, test5, test26, test6, test7, test8, test27, test9, test11}
use Rattle.problem.specs.inner.LentTests.{ceilings_refusal}
use Rattle.problem.proofs.FirstFailing.{above_none}
use Rattle.problem.proofs.TestsPassed.{Formed, formed, Balanced, balanced, second_decides, under_first, split_passes, accepted}
use Rattle.problem.proofs.TestParts.{ceilings_pass}
use Rattle.problem.proofs.Splits.{fits_split, sent_all}
use Rattle.problem.proofs.RaisedCurve.{lane_in}
use Rattle.problem.proofs.WithoutCeilings as earlier

-- 4,000 on every lane
abbrev pub Free : Case → Type 0
Free c = c.ceilings ≡ replicate {A = ℕ} (c.m * c.n) 4000

module _ (c : Case) (free : Free c) where
  long : length c.ceilings ≡ c.m * c.n
  long = ap length free ∙ length-replicate {A = ℕ} (c.m * c.n) 4000

  at_lane : (k : ℕ) → k < c.m * c.n → get_or c.ceilings k 0 ≡ 4000
  at_lane k h = ap (λ (l : List ℕ). get_or l k 0) free ∙ get_or-replicate {A = ℕ} (c.m * c.n) k 4000 0 h

  -- ---- the tests before the balance

  pub no_26 : test26 c ≡ none
  unfolding test26 ceilings_refusal
  no_26 =
      ceilings_pass (c.m * c.n) c.ceilings long
      (above_none 4000 c.ceilings (λ k h. let e = at_lane k (omega (arith, long)) in omega arith))

  pub form_same : form_refusal c ≡ earlier.form_refusal c
  unfolding form_refusal earlier.form_refusal
  form_same =
      ap (λ (o : Option Outcome). test1 c or_else test2 c or_else test3 c or_else test4 c or_else test23 c or_else test5 c or_else o)
      (second_decides (test26 c) (test6 c) no_26)

  -- ---- f, which plans count, ℓ and u

  module _ (f : Formed c) where
    wide : (i j : ℕ) → i < c.m → j < c.n → demand c j ≤ ceiling c i j
    wide i j h l = let e = at_lane (i * c.n + j) (lane_in c.m c.n i j h l) in omega (arith, f.small_demand j l)

    pub freight_same : least_freight_at c ≡ earlier.least_freight_at c
    unfolding least_freight_at least_atℤ least_freightℤ earlier.least_freight_at
    freight_same =
        fun_ext (λ y.
        ap (λ (l : List (List ℕ)). leastℤ (map (λ x. freightℤ c.m c.n (rates_by_row c.n c.costs) (by_row c.n x)) l))
        (listing_same c.m c.n (ceiling c) (amounts_at (made c) (λ i. supply c i) y) (λ j. demand c j) wide))

    lanes_same : plan_for c ≡ earlier.plan_for c
    unfolding plan_for canonicalℤ least_freightℤ earlier.plan_for earlier.least_freight_at
    lanes_same =
        fun_ext (λ y.
        ap (λ (l : List (List ℕ)).
        first
        (select (λ x. eq_z (freightℤ c.m c.n (rates_by_row c.n c.costs) (by_row c.n x)) (leastℤ (map (λ x. freightℤ c.m c.n (rates_by_row c.n c.costs) (by_row c.n x)) l)))
        l))
        (listing_same c.m c.n (ceiling c) (amounts_at (made c) (λ i. supply c i) y) (λ j. demand c j) wide))

    total_same : total_at c ≡ earlier.total_at c
    unfolding total_at earlier.total_at
    total_same = fun_ext (λ y. ap (λ (g : ℕ → ℤ). g y +ℤ pos (entry c y)) freight_same)

    pub plans_count : (x : List ℕ) → earlier.MeetsTP c x → MeetsTP c x
    unfolding column_sum
    plans_count x p = record {
      cells = p.cells;
      plant1 = p.plant1;
      plant2 = p.plant2;
      runs1 = p.runs1;
      runs2 = p.runs2;
      depots = p.depots;
      terminals = p.terminals;
      lanes = wide_under c.m c.n (ceiling c) (by_row c.n x) (λ j. demand c j) wide p.terminals;
    }

    pub plans_counted : (x : List ℕ) → MeetsTP c x → earlier.MeetsTP c x
    plans_counted x p = record {
      cells = p.cells;
      plant1 = p.plant1;
      plant2 = p.plant2;
      runs1 = p.runs1;
      runs2 = p.runs2;
      depots = p.depots;
      terminals = p.terminals;
    }

    module _ (b : Balanced c) where
      all_sent : (y : ℕ) → y ≤ made c → sum c.m (amounts_at (made c) (λ i. supply c i) y) ≡ all_demand c
      all_sent y h = sent_all c y f.two_sources (omega (arith, b.stock)) h

      low_high : lowest_split c ≤ highest_split c
      unfolding made lowest_split highest_split
      low_high = omega (arith, b.first_run, b.second_run, b.stock, b.reach)

      high_made : highest_split c ≤ made c
      unfolding highest_split
      high_made = omega arith

      one : Memᴰ (lowest_split c) (splits c)
      unfolding splits all_demand
      one =
          let h = low_high in
          let k = high_made in
          member_splits c.m c.n (ceiling c) (made c) (λ i. supply c i) (λ j. demand c j) (lowest_split c) (highest_split c) (lowest_split c) (omega arith) h
          (wide_has c.m c.n (ceiling c) (made c) (λ i. supply c i) (λ j. demand c j) wide (lowest_split c) (all_sent (lowest_split c) (omega arith)))

      pub no_27 : test27 c ≡ none
      no_27 = split_passes c (fits_split c (lowest_split c) one)

      pub ends_same : (least_split c ≡ earlier.least_split c) × (greatest_split c ≡ earlier.greatest_split c)
      unfolding made least_split greatest_split splits lowest_split highest_split all_demand earlier.least_split earlier.greatest_split
      ends_same =
          wide_splits c.m c.n (ceiling c) (λ i. supply c i) (λ j. demand c j) c.run1 c.run2 (made c) f.two_sources wide (all_sent 0 (omega arith))
          b.first_run b.second_run (omega (arith, b.stock)) b.reach

      steps_same : steps c ≡ earlier.steps c
      unfolding steps earlier.steps
      steps_same = ap₂ (λ (u l : ℕ). u - l) ends_same.1 ends_same.0

      -- ---- the later tests, the best split and the stops

      same9 : test9 c ≡ earlier.test9 c
      unfolding test9 earlier.test9
      same9 = ap₂ (λ (l s : ℕ). refuse_at 9 (first_from (λ y. ltb 1000000000 (entry c y)) l (s + 1))) ends_same.0 steps_same

      same11 : test11 c ≡ earlier.test11 c
      unfolding test11 earlier.test11
      same11 = rw steps_same refl

      later_same : (test27 c or_else test9 c or_else test11 c) ≡ (earlier.test9 c or_else earlier.test11 c)
      later_same = second_decides (test27 c) _ no_27 ∙ ap₂ (λ (a d : Option Outcome). a or_else d) same9 same11

      best_same : best_split c ≡ earlier.best_split c
      unfolding best_split earlier.best_split
      best_same =
          ap (λ (g : ℕ → ℤ). best_fromℤ g (least_split c) (steps c)) total_same
          ∙ ap₂ (λ (l s : ℕ). best_fromℤ (earlier.total_at c) l s) ends_same.0 steps_same

      stops_same : stops c ≡ earlier.stops c
      unfolding stops earlier.stops
      stops_same =
          ap (λ (g : ℕ → ℤ). stops_ofℤ g (least_split c) (greatest_split c)) freight_same
          ∙ ap₂ (λ (l u : ℕ). stops_ofℤ (earlier.least_freight_at c) l u) ends_same.0 ends_same.1

      stop_freights_same : stop_freights c ≡ earlier.stop_freights c
      unfolding stop_freights earlier.stop_freights
      stop_freights_same = ap₂ (λ (g : ℕ → ℤ) (l : List ℕ). map g l) freight_same stops_same

      plan_same : plan_of c ≡ earlier.plan_of c
      unfolding plan_of earlier.plan_of
      plan_same =
          ap₂ (λ (y : ℕ) (t : ℤ). planned y t (least_freight_at c (best_split c)) (length (stops c))) best_same (ap₂ (λ (g : ℕ → ℤ) (y : ℕ). g y) total_same best_same)
          ∙ ap₂ (λ (v : ℤ) (l : List ℕ). planned (earlier.best_split c) (earlier.total_at c (earlier.best_split c)) v (length l))
          (ap₂ (λ (g : ℕ → ℤ) (y : ℕ). g y) freight_same best_same) stops_same

  -- ---- the outcome

  pub refusal_same : refusal_of c ≡ earlier.refusal_of c
  unfolding refusal_of earlier.refusal_of
  refusal_same =
      under_first (form_refusal c) _ _ (λ e.
      under_first (test7 c) _ _ (λ e7.
      under_first (test8 c) _ _ (λ e8. let f = formed c e in later_same f (balanced c f e7 e8))))
      ∙ ap (λ (o : Option Outcome). o or_else test7 c or_else test8 c or_else earlier.test9 c or_else earlier.test11 c) form_same

  -- with 4,000 on every lane the outcome is the one defined without ceilings
  pub unchanged : outcome_of c ≡ earlier.outcome_of c
  unfolding outcome_of earlier.outcome_of
  unchanged =
      step (refusal_of c) (λ e. let a = accepted c e in let f = formed c a.form in plan_same f (balanced c f a.t7 a.t8))
      ∙ ap (λ (o : Option Outcome). let q : Outcome = elim o [ some r ↦ r | none ↦ earlier.plan_of c ] in q) refusal_same
    where
      step : (o : Option Outcome) → (o ≡ none → plan_of c ≡ earlier.plan_of c)
          → ◌≡◌ {A = Outcome} (elim o [ some r ↦ r | none ↦ plan_of c ]) (elim o [ some r ↦ r | none ↦ earlier.plan_of c ])
      step (some r) h = refl
      step none h = h refl

  -- and so are the stops and f at each
  pub unchanged_stops : refusal_of c ≡ none → (stops c ≡ earlier.stops c) × (stop_freights c ≡ earlier.stop_freights c)
  unchanged_stops e =
      let a = accepted c e in
      let f = formed c a.form in
      let b = balanced c f a.t7 a.t8 in
      (stops_same f b, stop_freights_same f b)

  -- and so is the plan for everybody, lane by lane
  pub unchanged_lanes : refusal_of c ≡ none → plan_for c ≡ earlier.plan_for c
  unchanged_lanes e = lanes_same (formed c (accepted c e).form)
