-- From the engine's answer on the working arrays to the promise of the lent case. Assumes nothing.
use mathlib.Core.Path.{◌≡◌, refl, sym, ap, ap₂, ◌∙◌, subst, subst₂, fun_ext}
use mathlib.Core.Bool.{Bool, not}
use mathlib.Core.Option.{none, some}
use mathlib.Core.List.{List, ◌++◌, map, Memᴰ}
use Prim.Native.Nat.{ℕ, zero, suc, max, min, ◌+◌, ◌-◌, ◌*◌, ◌≤◌, ◌<◌}
use native.Mathlib.Nat.{mul-le-mul_right}
use native.Mathlib.Omega.{arith}
use lib.IntN.{ℤ, sub_ℕ}
use lib.ListN.{length, get_or, take, drop, length-take, length-drop, take-append-drop}
use lib.Seq.{ext_get_or, get_or-take, get_or-drop}
use Rattle.std.specs.Prelude.{Option, Some, None}
use Rattle.transport.specs.Sum.{sum}
use Rattle.transport.specs.Plan.{by_row, row, col, freight}
use Rattle.transport.specs.Listing.{up_from, select, least, greatest, some as any}
use Rattle.transport.specs.Curve.{amounts_at, least_in, has_plan, splits_in, best_from, stops_of, written, splits_of}
use Rattle.transport.specs.Canonical.{canonical_at}
use Rattle.split_range.specs.declared.begin.Range.{Range}
use Rattle.split_range.specs.inner.Range.{BeginReady, Ranged, amount_in, demand_in}
use Rattle.sweep.specs.inner.Sweep.{SweepReady, Swept}
use Rattle.transport.proofs.Sums.{sum_ext, total_ext}
use Rattle.transport.proofs.WithinCeilings.{some_ext, least_freight_in_ext}
use Rattle.transport.proofs.Splits.{at_has, member_splits}
use Rattle.transport.proofs.Canonical.{canonical_ext, canonical_plan}
use Rattle.transport.proofs.Tables.{rows_ext}
use Rattle.problem.specs.Case.{Case, supply, demand, ceiling, all_demand, made, lowest_split, highest_split, splits, has_split, least_split, greatest_split, steps}
use Rattle.problem.specs.Plans.{PlanAt, freight_of, least_freight_at, plan_for, total_at, best_split, stops}
use Rattle.problem.specs.Outcome.{Outcome, planned, refused, refusal_of, plan_of, outcome_of, test27, test9, test11}
use Rattle.problem.specs.Promise.{Cheapest, BalanceRule}
use Rattle.planner.specs.Answer.{Slices, slices, Written, Answered}
use Rattle.engine_arrays.specs.inner.Copy.{Narrow, RowsMoved, Supplied, Wanted}
use Rattle.planner.specs.inner.Ready.{OnBalance}
use Rattle.problem.proofs.TestsPassed.{Formed, formed, Balanced, balanced, has_split_lem, split_passes, small_entry, roomy, first_decides, second_decides}
use Rattle.problem.proofs.TestParts.{met, sum_under}
use Rattle.problem.proofs.Splits.{Fitting, fitting, fits_split, sent_all, in_order, last_split, ends_within, most_made}
use Rattle.problem.proofs.Promise.{from27, from9, refused_outcome, balance_rule, cheapest}
use Rattle.problem.specs.Range.{AllInside, lower}
use Rattle.problem.proofs.RaisedCurve.{lane_in, raised_costs, raised_freight, raised_at, raised_total, added, cost_most, freight_above, plan_for_is}
use Rattle.problem.proofs.RaisedCurve.{least_above, total_above, best_is, best_in, stops_are, stop_freights_are}
use Rattle.problem.proofs.TotalBounds.{few_drums, raised_most, total_bounded}

-- the amounts at a split depend on the depots' stock alone
amounts_same : (d d' : ℕ) (a a' : ℕ → ℕ) (m : ℕ) → d ≡ d' → ((i : ℕ) → 2 ≤ i → i < m → a i ≡ a' i) → (y i : ℕ) → i < m → amounts_at d a y i ≡ amounts_at d' a' y i
unfolding amounts_at
amounts_same d d' a a' m e h y zero l = refl
amounts_same d d' a a' m e h y (suc zero) l = ap (λ (v : ℕ). v - y) e
amounts_same d d' a a' m e h y (suc (suc i)) l = h (suc (suc i)) (omega arith) l

-- the working arrays of a case
pub record Prepared (c : Case) (cost cap amounts wants : List ℕ) : Type 0 where
  pub costs : RowsMoved c.m c.n c.n 64 (raised_costs c) cost
  pub ceilings : RowsMoved c.m c.n c.n 64 c.ceilings cap
  pub sources : (i : ℕ) → i < c.m → get_or amounts i 0 ≡ supply c i
  pub long : length wants ≡ 96
  pub quiet : (v : ℕ) → v < 32 → get_or wants v 0 ≡ 0
  pub demands : (j : ℕ) → j < c.n → get_or wants (32 + j) 0 ≡ demand c j

-- past test 27: lo and hi are ℓ and u
pub record OnSplits (c : Case) (lo hi all : ℕ) : Type 0 where
  pub on : OnBalance c all
  pub t27 : test27 c ≡ none
  pub low : lo ≡ least_split c
  pub high : hi ≡ greatest_split c

-- past test 11
pub record Accepts (c : Case) (lo hi all : ℕ) : Type 0 where
  pub on : OnSplits c lo hi all
  pub t9 : test9 c ≡ none
  pub t11 : test11 c ≡ none

pub form_of : {c : Case} {all : ℕ} → OnBalance c all → Formed c
form_of {c} s = formed c s.form

pub even_of : {c : Case} {all : ℕ} → OnBalance c all → Balanced c
even_of {c} s = balanced c (form_of s) s.t7 s.t8

pub whole_most : {c : Case} {all : ℕ} → OnBalance c all → all ≤ 8000
whole_most s =
    let f = form_of s in
    omega (arith, s.whole, (even_of s).reach, f.small_supply 0 (omega (arith, f.two_sources)), f.small_supply 1 (omega (arith, f.two_sources)))

-- the runs are small too
pub runs_most : {c : Case} {all : ℕ} → OnBalance c all → (c.run1 ≤ 4000) × (c.run2 ≤ 4000)
runs_most s =
    let f = form_of s in (
      omega (arith, f.first_run, f.small_supply 0 (omega (arith, f.two_sources))),
      omega (arith, f.second_run, f.small_supply 1 (omega (arith, f.two_sources))),
    )

pub fitting_of : {c : Case} {lo hi all : ℕ} → OnSplits c lo hi all → Fitting c
fitting_of {c} s = fitting c (even_of s.on) (has_split_lem c s.t27)

module _ {c : Case} {lo hi all : ℕ} (s : OnSplits c lo hi all) where
  pub order : lo ≤ hi
  order = omega (arith, s.low, s.high, in_order (form_of s.on) (fitting_of s))

  pub most : (hi ≤ all) × (hi ≤ supply c 0) × (supply c 0 ≤ 4000)
  unfolding highest_split
  most =
      let f = form_of s.on in
      let t = fitting_of s in (
        omega (arith, s.high, s.on.whole, most_made f t),
        omega (arith, s.high, ends_within f t),
        f.small_supply 0 (omega (arith, f.two_sources)),
      )

  pub gap : hi - lo ≡ steps c
  unfolding steps
  gap = omega (arith, s.low, s.high)

  pub inside : hi < length c.table
  inside = omega (arith, (form_of s.on).table_long, most)

-- what the slices hold fits the working arrays
pub costs_inside : {c : Case} → Formed c → AllInside c.costs
costs_inside f k h = f.cost_inside k (omega (arith, f.costs_long))

pub narrow_ceilings : {c : Case} → Formed c → Narrow c.ceilings
narrow_ceilings f k h = omega (arith, f.ceiling_most k (omega (arith, f.ceilings_long)))

pub narrow_supplies : {c : Case} → Formed c → Narrow c.supplies
narrow_supplies f k h = omega (arith, f.small_supply k (omega (arith, f.supplies_long)))

pub narrow_demands : {c : Case} → Formed c → Narrow c.demands
narrow_demands f k h = omega (arith, f.small_demand k (omega (arith, f.demands_long)))

-- the demands' sum
pub demand_sum : {c : Case} → Formed c → sum (length c.demands) (λ j. get_or c.demands j 0) ≡ all_demand c
unfolding all_demand
demand_sum {c} f = ap (λ (n : ℕ). sum n (λ j. demand c j)) f.demands_long

-- 64 terminals of 4,000 drums
pub drums_most : {c : Case} → Formed c → all_demand c ≤ 256000
unfolding all_demand
drums_most {c} f = omega (arith, sum_under c.n 4000 (λ j. demand c j) f.small_demand, f.few_terminals, mul-le-mul_right 4000 f.few_terminals)

-- from what the working arrays' functions say
pub prepare : {c : Case} {all : ℕ} {cost cap amounts wants : List ℕ} → OnBalance c all → RowsMoved c.m c.n c.n 64 (raised_costs c) cost
    → RowsMoved c.m c.n c.n 64 c.ceilings cap → Supplied c.supplies amounts → Wanted c.demands wants → Prepared c cost cap amounts wants
prepare {c} a r l f w =
    let q = form_of a in
    record {
      costs = r;
      ceilings = l;
      sources = λ i h. f.sources i (omega (arith, q.supplies_long));
      long = w.long;
      quiet = w.quiet;
      demands = λ j h. w.terminals j (omega (arith, q.demands_long));
    }

-- ---- what the engine asks, and the first and the last split

module _ {c : Case} {all : ℕ} (s : OnBalance c all) {cost cap amounts wants : List ℕ} (p : Prepared c cost cap amounts wants) where
  lane_cap : (i j : ℕ) → i < c.m → j < c.n → get_or cap (i * 64 + j) 0 ≤ 4000
  lane_cap i j h l = omega (arith, p.ceilings.cells i j h l, (form_of s).ceiling_most (i * c.n + j) (lane_in c.m c.n i j h l))

  pub sends : (y i : ℕ) → i < c.m → amounts_at all (amount_in amounts) y i ≡ amounts_at (made c) (λ i. supply c i) y i
  sends y i h = amounts_same all (made c) (amount_in amounts) (λ i. supply c i) c.m s.whole (λ i a l. p.sources i l) y i h

  sent : sum c.m (amounts_at all (amount_in amounts) 0) ≡ all_demand c
  sent =
      sum_ext c.m (amounts_at all (amount_in amounts) 0) (amounts_at (made c) (λ i. supply c i) 0) (sends 0)
      ∙ sent_all c 0 (form_of s).two_sources (omega (arith, (even_of s).stock)) (omega arith)

  got : sum c.n (demand_in wants) ≡ all_demand c
  unfolding all_demand
  got = sum_ext c.n (demand_in wants) (λ j. demand c j) p.demands

  pub ready : BeginReady c.m c.n cost cap amounts wants c.run1 c.run2 all
  unfolding made
  ready =
      let f = form_of s in
      let b = even_of s in
      let a0 = p.sources 0 (omega (arith, f.two_sources)) in
      let a1 = p.sources 1 (omega (arith, f.two_sources)) in
      record {
        plants = f.two_sources;
        sources = f.few_sources;
        terminals = f.few_terminals;
        long_demand = p.long;
        quiet = p.quiet;
        costs = λ i j h l. omega (arith, p.costs.cells i j h l, cost_most f i j h l);
        ceilings = λ i j h l. omega (arith, lane_cap i j h l);
        balance = sent ∙ sym got;
        few = omega (arith, got, drums_most f);
        first_run = omega (arith, f.first_run, a0);
        second_run = omega (arith, f.second_run, a1);
        low = omega (arith, s.whole, b.stock);
        high = omega (arith, s.whole, b.reach, a0, a1);
      }

  -- the engine's splits are those of the case
  same_has : (y : ℕ) → has_plan c.m c.n (by_row 64 cap) all (amount_in amounts) (demand_in wants) y
      ≡ has_plan c.m c.n (ceiling c) (made c) (λ i. supply c i) (λ j. demand c j) y
  unfolding has_plan
  same_has y =
      some_ext c.m c.n (by_row 64 cap) (ceiling c) _ _ (demand_in wants) (λ j. demand c j) p.ceilings.cells (sends y) p.demands

  pub splits_same : splits_of c.m c.n (by_row 64 cap) (amount_in amounts) (demand_in wants) c.run1 c.run2 all ≡ splits c
  unfolding splits splits_in lowest_split highest_split
  splits_same =
      ap (λ (g : ℕ → Bool). select g (up_from (max c.run1 (all - get_or amounts 1 0)) (suc (min (get_or amounts 0 0) (all - c.run2)) - max c.run1 (all - get_or amounts 1 0))))
      (fun_ext same_has)
      ∙ ap₂ (λ (x z : ℕ). select (has_plan c.m c.n (ceiling c) (made c) (λ i. supply c i) (λ j. demand c j)) (up_from x (suc z - x)))
      (ap₂ (λ (d v : ℕ). max c.run1 (d - v)) s.whole (p.sources 1 (omega (arith, (form_of s).two_sources))))
      (ap₂ (λ (v d : ℕ). min v (d - c.run2)) (p.sources 0 (omega (arith, (form_of s).two_sources))) s.whole)

  module _ {x serves pot : List ℕ} {range : Option Range} (r : Ranged c.m c.n cost cap amounts wants c.run1 c.run2 all x serves pot range) where
    -- there is none: 27
    pub refused_27 : range ≡ None → refusal_of c ≡ some (refused 27 0)
    unfolding test27 has_split any
    refused_27 e =
        from27 c s.form s.t7 s.t8
        ∙ first_decides _ _ _ (met 27 _ (ap (λ (l : List ℕ). not (any l)) (sym splits_same ∙ r.none e)))

    -- there is one
    has_one : (v : Range) → range ≡ Some v → Memᴰ v.hi (splits c)
    has_one v e =
        let g = r.begun v e in
        let w = r.within v e in
        let hi = v.hi in
        subst (λ (l : List ℕ). Memᴰ hi l) splits_same
        (member_splits c.m c.n (by_row 64 cap) all (amount_in amounts) (demand_in wants) _ _ hi (omega (arith, w)) (omega (arith, w))
        (at_has c.m c.n (by_row 64 cap) all (amount_in amounts) (demand_in wants) (form_of s).two_sources hi (all - hi) g.end.plan (omega (arith, g.within))
        g.end.at g.end.under))

    pub on_splits : (v : Range) → range ≡ Some v → OnSplits c v.lo v.hi all
    unfolding least_split greatest_split
    on_splits v e = record {
      on = s;
      t27 = split_passes c (fits_split c v.hi (has_one v e));
      low = r.low v e ∙ ap least splits_same;
      high = r.high v e ∙ ap greatest splits_same;
    }

-- ---- the sweep

module _ {c : Case} {lo hi all : ℕ} (a : Accepts c lo hi all) {cost cap amounts wants : List ℕ} (p : Prepared c cost cap amounts wants) where
  f : Formed c
  f = form_of a.on.on

  fit : Fitting c
  fit = fitting_of a.on

  cell : (i j : ℕ) → i < c.m → j < c.n → i * c.n + j < c.m * c.n
  cell i j h l = lane_in c.m c.n i j h l

  pub sweep_ready : (plus : ℕ) (splits : List ℕ) (freights : List ℤ) → plus ≤ 1000000000000 → length splits ≡ c.split_cells → length freights ≡ c.freight_cells
      → SweepReady c.m c.n wants lo hi c.table plus splits freights
  sweep_ready plus splits freights h es ef =
      let r = roomy c a.t11 in
      record {
        few = omega (arith, got a.on.on p, few_drums f fit);
        short = omega (arith, most a.on);
        entries = inside a.on;
        small = λ y h l. small_entry c a.t9 y (omega (arith, a.on.low)) (omega (arith, last_split f fit, a.on.high));
        added_most = h;
        splits_room = omega (arith, gap a.on, r.split_room);
        freights_room = omega (arith, gap a.on, r.freight_room);
      }

  -- ---- the curves are one

  pub curve : least_in c.m c.n (by_row 64 cost) (by_row 64 cap) all (amount_in amounts) (demand_in wants) ≡ raised_at c
  unfolding raised_at least_in
  curve =
      fun_ext (λ y.
      least_freight_in_ext c.m c.n (by_row 64 cost) (by_row c.n (raised_costs c)) (by_row 64 cap) (ceiling c) _ _ (demand_in wants) (λ j. demand c j)
      p.costs.cells p.ceilings.cells (sends a.on.on p y) p.demands)

  accepted_all : refusal_of c ≡ none
  accepted_all =
      from9 c a.on.on.form a.on.on.t7 a.on.on.t8 a.on.t27 ∙ second_decides _ _ a.t9 ∙ a.t11

  -- ---- the answer

  module _ {plus : ℕ} {splits x splits' x' kept : List ℕ} {freights freights' : List ℤ} {y t v k : ℕ}
      (w : Swept c.m c.n (by_row 64 cost) (by_row 64 cap) all (amount_in amounts) (demand_in wants) lo hi c.table plus splits freights x splits' freights' x' kept y t v k) where
    here : (least_split c ≤ best_split c) × (best_split c ≤ greatest_split c)
    here = best_in f fit

    is_split : y ≡ best_split c
    unfolding raised_total
    is_split =
        w.split
        ∙ ap (λ (g : ℕ → ℕ). best_from (λ z. g z + get_or c.table z 0) lo (hi - lo)) curve
        ∙ ap₂ (λ (x z : ℕ). best_from (raised_total c) x z) a.on.low (gap a.on) ∙ sym (best_is f fit)

    raised_freight_lem : v ≡ raised_at c (best_split c)
    raised_freight_lem = w.least ∙ ap₂ (λ (g : ℕ → ℕ) (z : ℕ). g z) curve is_split

    raised_total_lem : t ≡ raised_total c (best_split c)
    unfolding raised_total
    raised_total_lem = w.total ∙ ap₂ (λ (x z : ℕ). x + get_or c.table z 0) raised_freight_lem is_split

    is_freight : sub_ℕ v (added c) ≡ least_freight_at c (best_split c)
    is_freight = ap (λ (x : ℕ). sub_ℕ x (added c)) raised_freight_lem ∙ sym (least_above f fit (best_split c) here.0 here.1).is

    is_total : sub_ℕ t (added c) ≡ total_at c (best_split c)
    is_total = ap (λ (x : ℕ). sub_ℕ x (added c)) raised_total_lem ∙ sym (total_above f fit (best_split c) here.0 here.1).is

    -- the stops of the raised curve
    raised_stops : stops_of (least_in c.m c.n (by_row 64 cost) (by_row 64 cap) all (amount_in amounts) (demand_in wants)) lo hi ≡ stops_of (raised_at c) (least_split c) (greatest_split c)
    raised_stops =
        ap (λ (g : ℕ → ℕ). stops_of g lo hi) curve ∙ ap₂ (λ (x z : ℕ). stops_of (raised_at c) x z) a.on.low a.on.high

    is_stops : stops_of (least_in c.m c.n (by_row 64 cost) (by_row 64 cap) all (amount_in amounts) (demand_in wants)) lo hi ≡ stops c
    is_stops = raised_stops ∙ sym (stops_are f fit)

    -- what is to be lowered is small enough
    pub freight_moderate : v ≤ 1000000000000
    freight_moderate = omega (arith, raised_freight_lem, raised_most f fit (best_split c) here.0 here.1, few_drums f fit)

    pub total_moderate : t ≤ 1000000000000
    unfolding raised_total
    total_moderate =
        omega (arith, raised_total_lem, raised_most f fit (best_split c) here.0 here.1, few_drums f fit, small_entry c a.t9 (best_split c) here.0 (omega (arith, last_split f fit, here.1)))

    -- the plan slice after the rows were copied out
    module _ (before after : List ℕ) (cells : RowsMoved c.m c.n 64 c.n kept after) (long : length after ≡ length before)
        (rest : (i : ℕ) → c.m * c.n ≤ i → get_or after i 0 ≡ get_or before i 0) (room : length before ≡ c.plan_cells) where
      lanes : List ℕ
      lanes = take (c.m * c.n) after

      fits : c.m * c.n ≤ length after
      fits = omega (arith, long, room, (roomy c a.t11).plan_room)

      lanes_long : length (take (c.m * c.n) after) ≡ c.m * c.n
      lanes_long = length-take (c.m * c.n) after ∙ omega (arith, fits)

      lane : (i j : ℕ) → i < c.m → j < c.n → by_row c.n (take (c.m * c.n) after) i j ≡ by_row 64 kept i j
      lane i j h l = get_or-take (c.m * c.n) after (i * c.n + j) 0 (cell i j h l) ∙ cells.cells i j h l

      wrote : after ≡ written (take (c.m * c.n) after) before
      wrote =
          sym (take-append-drop (c.m * c.n) after)
          ∙ ap (λ (l : List ℕ). take (c.m * c.n) after ++ l)
          (ext_get_or 0 (drop (c.m * c.n) after) (drop (length (take (c.m * c.n) after)) before)
          (length-drop (c.m * c.n) after ∙ omega (arith, long, lanes_long) ∙ sym (length-drop (length (take (c.m * c.n) after)) before))
          (λ i h. get_or-drop (c.m * c.n) after i 0 ∙ rest (c.m * c.n + i) (omega arith)
          ∙ ap (λ (n : ℕ). get_or before (n + i) 0) (sym lanes_long) ∙ sym (get_or-drop (length (take (c.m * c.n) after)) before i 0)))

      is_plan : PlanAt c (best_split c) (take (c.m * c.n) after)
      unfolding row col
      is_plan = record {
        plan = record {
          cells = lanes_long;
          rows = λ i h.
              sum_ext c.n _ _ (λ j l. lane i j h l) ∙ w.plan.rows i h
              ∙ sends a.on.on p y i h ∙ ap (λ (z : ℕ). amounts_at (made c) (λ i. supply c i) z i) is_split;
          columns = λ j l. sum_ext c.m _ _ (λ i h. lane i j h l) ∙ w.plan.columns j l ∙ p.demands j l;
        };
        under = λ i j h l. omega (arith, lane i j h l, w.plan.under i j h l, p.ceilings.cells i j h l);
      }

      is_worth : freight_of c (take (c.m * c.n) after) ≡ least_freight_at c (best_split c)
      unfolding raised_freight freight
      is_worth =
          (freight_above f (best_split c) (take (c.m * c.n) after) is_plan).is ∙ ap (λ (x : ℕ). sub_ℕ x (added c)) raised_worth
          ∙ sym (least_above f fit (best_split c) here.0 here.1).is
        where
          raised_worth : raised_freight c (take (c.m * c.n) after) ≡ raised_at c (best_split c)
          raised_worth =
              total_ext c.m c.n _ _ (λ i j h l. ap₂ (λ (x z : ℕ). x * z) (sym (p.costs.cells i j h l)) (lane i j h l)) ∙ w.plan.worth ∙ raised_freight_lem

      -- the engine's plan for everybody is that of the case
      same_plan : canonical_at c.m c.n (by_row 64 cost) (by_row 64 cap) all (amount_in amounts) (demand_in wants) y ≡ plan_for c (best_split c)
      same_plan =
          canonical_ext c.m c.n (by_row 64 cost) (by_row c.n (raised_costs c)) (by_row 64 cap) (ceiling c) _ _ (demand_in wants) (λ j. demand c j)
          p.costs.cells p.ceilings.cells (sends a.on.on p y) p.demands
          ∙ ap (λ (z : ℕ). canonical_at c.m c.n (by_row c.n (raised_costs c)) (ceiling c) (made c) (λ i. supply c i) (λ j. demand c j) z) is_split
          ∙ sym (plan_for_is f (best_split c))

      is_everybody : take (c.m * c.n) after ≡ plan_for c (best_split c)
      is_everybody =
          rows_ext c.m c.n _ _ lanes_long
          (ap length (plan_for_is f (best_split c)) ∙ (canonical_plan c.m c.n _ _ _ _ is_plan).plan.cells)
          (λ i j h l. lane i j h l ∙ w.first i j h l ∙ ap (λ (q : List ℕ). by_row c.n q i j) same_plan)

      module _ (same : plus ≡ added c) where
        pub given : Written c (best_split c) (total_at c (best_split c)) (slices before splits freights) (slices after splits' freights')
        given = record {
          cells = subst (λ (l : List ℕ). after ≡ written l before) is_everybody wrote;
          plan = subst (λ (l : List ℕ). PlanAt c (best_split c) l) is_everybody is_plan;
          freight = subst (λ (l : List ℕ). freight_of c l ≡ least_freight_at c (best_split c)) is_everybody is_worth;
          cheapest =
              subst (λ (l : List ℕ). Cheapest c l (best_split c) (total_at c (best_split c))) is_everybody
              (cheapest c (take (c.m * c.n) after) accepted_all is_plan is_worth);
          bounded = total_bounded f fit a.t9;
          splits = w.stops_written ∙ ap (λ (l : List ℕ). written l splits) is_stops;
          freights =
              w.freights_written
              ∙ ap (λ (l : List ℤ). written l freights)
              (ap₂ (λ (q : ℕ) (l : List ℕ). map (lower q) l) same (ap₂ (λ (g : ℕ → ℕ) (l : List ℕ). map g l) curve raised_stops) ∙ sym (stop_freights_are f fit));
        }

        pub answered : Answered c (planned y (sub_ℕ t (added c)) (sub_ℕ v (added c)) k) (slices before splits freights) (slices after splits' freights')
        unfolding outcome_of plan_of
        answered =
            let e : planned y (sub_ℕ t (added c)) (sub_ℕ v (added c)) k ≡ outcome_of c =
            ap₂ (λ (x : ℕ) (z : ℤ). planned x z (sub_ℕ v (added c)) k) is_split is_total
            ∙ ap₂ (λ (x : ℤ) (z : ℕ). planned (best_split c) (total_at c (best_split c)) x z) is_freight (w.count ∙ ap length is_stops)
            ∙ sym (rw (accepted_all, outcome_of) refl) in
            record {
              answer = e;
              written = λ s' t' f' k' q. let es : s' ≡ best_split c = let z : y ≡ s' = cc in omega (arith, is_split) in
                  let et : t' ≡ total_at c (best_split c) = let z : sub_ℕ t (added c) ≡ t' = cc in sym z ∙ is_total in
                  rw (es, et) given;
              kept = λ k' p' q. let z : ◌≡◌ {A = ℕ} 0 1 = cc in absurd (omega arith);
              balance = subst (λ (o : Outcome). BalanceRule c o) (sym e) (balance_rule c);
            }

-- the same answer with total and freight told otherwise
pub told : {c : Case} {y k : ℕ} {t v t' v' : ℤ} {before after : Slices} → t' ≡ t → v' ≡ v → Answered c (planned y t v k) before after
    → Answered c (planned y t' v' k) before after
told {c} {y} {k} {before = before} {after} et ev a =
    subst₂ (λ (t v : ℤ). Answered c (planned y t v k) before after) (sym et) (sym ev) a

-- ---- a refusal

pub refuses : (c : Case) (k p : ℕ) (s : Slices) → refusal_of c ≡ some (refused k p) → Answered c (refused k p) s s
refuses c k p s e =
    let q = refused_outcome c (refused k p) e in
    record {
      answer = sym q;
      written = λ s' t' f' k' r. let z : ◌≡◌ {A = ℕ} 0 1 = cc in absurd (omega arith);
      kept = λ k' p' r. refl;
      balance = subst (λ (o : Outcome). BalanceRule c o) q (balance_rule c);
    }
