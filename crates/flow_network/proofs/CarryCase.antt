-- The slices that the code makes are the case of the network, and the plan's cells are read back as its flow. Assumes nothing.
use mathlib.Core.Path.{◌≡◌, refl, sym, ap, ap₂, ◌∙◌, subst}
use mathlib.Core.Logic.{◌≢◌}
use mathlib.Core.Bool.{false, not, cond}
use mathlib.Core.List.{List, ◌∷◌, ◌++◌}
use Prim.Native.Nat.{ℕ, zero, suc, ◌+◌, ◌-◌, ◌*◌, ◌≤◌, ◌<◌}
use native.Mathlib.Nat.{suc-mul, mul-le-mul_right, mul-le-mul}
use native.Mathlib.Numerals.{add-one}
use native.Mathlib.Omega.{arith}
use lib.Dec.{eqb, ltb}
use lib.IntN.{ℤ, pos, neg_ℤ}
use lib.Signed.{lt_z}
use mir.Syntax.{w64}
use mir.Val.{to_z, of_z}
use lib.ListN.{length, get_or, take, drop, get_or-append}
use borrow.Author.Tests.{eq-eqb, le-ltb}
use Rattle.transport.specs.Sum.{sum}
use Rattle.transport.specs.Plan.{by_row, row}
use Rattle.transport.specs.Curve.{written}
use Rattle.problem.specs.Range.{outside}
use Rattle.problem.specs.Case.{lent, Case}
use Rattle.problem.specs.Plans.{row_sum, plan_for}
use Rattle.problem.specs.Promise.{Cheapest, Bounded}
use Rattle.problem.proofs.MachineIntegers.{read_back}
use Rattle.dimacs.specs.Arc.{Arc}
use Rattle.flow_problem.specs.Network.{Network, arc_count, arc_at, start, end, ceiling, NoFlow, cells}
use Rattle.flow_problem.specs.inner.Reduce.{rows_of, node_of, source_of, node, source, stock, lane_cost, lane_ceiling, want, entry_at, case_of, flow_at, flow_of}
use Rattle.flow_problem.specs.inner.Sound.{Sound, uneven}
use Rattle.flow_case.specs.inner.Build.{Filled, Put, RowsAre, want_in, lane_in, cost_in, entry_in, stock_in, flow_in, under_at}
use Rattle.flow_problem.specs.Answer.{any_below}
use Rattle.flow_case.specs.inner.Slices.{net_of}
use Rattle.flow_network.specs.inner.Ready.{Arcs, Amounts, Named, CarriedAs, CarriedIs}
use Rattle.std.specs.Prelude.{Option, Some, None}
use Rattle.flow_network.specs.declared.carry.Found.{Found}
use Rattle.flow_network.specs.inner.Found.{FoundAs, FoundIs}
use Rattle.flow_problem.proofs.NodesAndSources.{cells_length, node_below, source_below}
use Rattle.flow_problem.proofs.FlowListing.{or_both, below_none}
use Rattle.flow_problem.proofs.SoundNetwork.{Proper, sound}
use Rattle.flow_problem.proofs.Reduction.{cheapest_flow_lem, no_flow}
use Rattle.flow_case.proofs.RowLoops.{cells_list, rows_list, put_list}
use Rattle.flow_case.proofs.NetworkSlices as slices
use Rattle.flow_problem.proofs.SoundCase.{first_supply, case_formed, case_entries}
use Rattle.flow_network.proofs.CarryLaws.{bounded_fits, no_plan_there}
use Rattle.problem.proofs.TestsPassed.{either_first, either_second}

front : {A : Type 0} (k : ℕ) (l : List A) → take (k - 0) (drop 0 l) ≡ take k l
front k l = ap (λ (n : ℕ). take n l) (let q : k - 0 ≡ k = omega arith in q)

pub cells_ext : {A : Type 0} (n : ℕ) (f h : ℕ → A) → ((j : ℕ) → j < n → f j ≡ h j) → cells n f ≡ cells n h
unfolding cells
cells_ext zero f h e = refl
cells_ext (suc n) f h e = ap₂ (λ a l. a ∷ l) (e 0 (omega arith)) (cells_ext n (λ j. f (suc j)) (λ j. h (suc j)) (λ j l. e (suc j) (omega arith)))

-- ---- arcs in order

module _ (gives takes starts ends ceilings : List ℕ) (costs : List ℤ) (A : Arcs (length gives) starts ends ceilings costs) where
  abbrev network : Network
  network = net_of gives takes starts ends ceilings costs

  counted : arc_count network ≡ length starts
  counted = slices.count_is gives takes starts ends ceilings costs A.ends_long A.ceilings_long A.costs_long

  arc_of : (j : ℕ) → j < length starts → arc_at network j ≡ record { start = get_or starts j 0; end = get_or ends j 0; ceiling = get_or ceilings j 0; cost = get_or costs j (pos 0) }
  arc_of j l = slices.arc_is gives takes starts ends ceilings costs A.ends_long A.ceilings_long A.costs_long j l

  inside_parts : (z : ℤ) → outside z ≡ false → (lt_z z (neg_ℤ (pos 1000000)) ≡ false) × (lt_z (pos 1000000) z ≡ false)
  unfolding outside
  inside_parts z e = (either_first (lt_z z (neg_ℤ (pos 1000000))) (lt_z (pos 1000000) z) e, either_second (lt_z z (neg_ℤ (pos 1000000))) (lt_z (pos 1000000) z) e)

  pub proper_of : Proper network
  proper_of = record {
    starts = λ j l. let q : j < length starts = omega (arith, counted) in omega (arith, ap (λ (a : Arc). a.start) (arc_of j q), A.start_low j q, A.start_high j q);
    ends = λ j l. let q : j < length starts = omega (arith, counted) in omega (arith, ap (λ (a : Arc). a.end) (arc_of j q), A.end_low j q, A.end_high j q);
    apart = λ j l e.
        let q : j < length starts = omega (arith, counted) in
        A.apart j q (omega (arith, e, ap (λ (a : Arc). a.start) (arc_of j q), ap (λ (a : Arc). a.end) (arc_of j q), A.start_low j q, A.end_low j q));
    ceilings = λ j l. let q : j < length starts = omega (arith, counted) in omega (arith, ap (λ (a : Arc). a.ceiling) (arc_of j q), A.ceiling_most j q);
    starts_numbered = λ j l. let q : j < length starts = omega (arith, counted) in omega (arith, ap (λ (a : Arc). a.start) (arc_of j q), A.start_low j q);
    ends_numbered = λ j l. let q : j < length starts = omega (arith, counted) in omega (arith, ap (λ (a : Arc). a.end) (arc_of j q), A.end_low j q);
    costs_low = λ j l.
        let q : j < length starts = omega (arith, counted) in
        ap (λ (a : Arc). lt_z a.cost (neg_ℤ (pos 1000000))) (arc_of j q) ∙ (inside_parts (get_or costs j (pos 0)) (A.cost_inside j q)).0;
    costs_high = λ j l.
        let q : j < length starts = omega (arith, counted) in
        ap (λ (a : Arc). lt_z (pos 1000000) a.cost) (arc_of j q) ∙ (inside_parts (get_or costs j (pos 0)) (A.cost_inside j q)).1;
  }

module _ (gives takes haves starts ends ceilings : List ℕ) (costs : List ℤ) (named : ℕ) (table : List ℕ) (A : Arcs (length gives) starts ends ceilings costs)
    (M : Amounts gives takes haves ends ceilings) (N : Named starts named table) where
  abbrev g : Network
  g = net_of gives takes starts ends ceilings costs

  abbrev w : ℕ
  w = get_or ends named 0 - 1

  abbrev v : ℕ
  v = get_or starts named 0 - 1

  abbrev most : ℕ
  most = get_or haves w 0 - get_or takes w 0

  abbrev top : ℕ
  top = get_or ceilings named 0

  count : arc_count g ≡ length starts
  count = slices.count_is gives takes starts ends ceilings costs A.ends_long A.ceilings_long A.costs_long

  arc_at_lem : (j : ℕ) → j < length starts → arc_at g j ≡ record { start = get_or starts j 0; end = get_or ends j 0; ceiling = get_or ceilings j 0; cost = get_or costs j (pos 0) }
  arc_at_lem j l = slices.arc_is gives takes starts ends ceilings costs A.ends_long A.ceilings_long A.costs_long j l

  ok : Proper g
  ok = proper_of gives takes starts ends ceilings costs A

  even : uneven g ≡ false
  even =
      sym (slices.even_is gives takes starts ends ceilings costs A.ends_long A.ceilings_long A.costs_long ok haves M.hold)
      ∙ or_both (not (eqb (sum (length gives) (λ i. get_or gives i 0)) (sum (length gives) (λ i. get_or takes i 0)))) (any_below (length gives) (under_at haves takes))
      (ap not (eq-eqb (sum (length gives) (λ i. get_or gives i 0)) (sum (length gives) (λ i. get_or takes i 0)) M.even))
      (below_none (length gives) (under_at haves takes) (λ i l. le-ltb (get_or haves i 0) (get_or takes i 0) (M.enough i l)))

  so : Sound g named
  so = sound g ok even named (omega (arith, count, N.place))

  w_is : end g named ≡ w
  w_is = ap (λ (a : Arc). a.end - 1) (arc_at_lem named N.place)

  v_is : start g named ≡ v
  v_is = ap (λ (a : Arc). a.start - 1) (arc_at_lem named N.place)

  top_is : ceiling g named ≡ top
  top_is = ap (λ (a : Arc). a.ceiling) (arc_at_lem named N.place)

  pub w_in : w < length gives
  w_in = omega (arith, A.end_low named N.place, A.end_high named N.place)

  pub v_in : v < length gives
  v_in = omega (arith, A.start_low named N.place, A.start_high named N.place)

  apart : v ≢ w
  apart e = A.apart named N.place (omega (arith, e, A.start_low named N.place, A.end_low named N.place))

  pub nodes_in : (s : ℕ) → s < length gives → node_of w v s < length gives
  nodes_in s l = node_below w v (length gives) w_in v_in apart s l

  pub sources_in : (j : ℕ) → j < length starts → source_of w v (get_or starts j 0 - 1) < length gives
  sources_in j l = source_below w v (length gives) w_in v_in apart (get_or starts j 0 - 1) (omega (arith, A.start_low j l, A.start_high j l))

  stock_is : (i : ℕ) → i < length gives → stock g i ≡ get_or haves i 0 - get_or takes i 0
  stock_is i l = slices.stock_held gives takes starts ends ceilings costs A.ends_long A.ceilings_long A.costs_long ok haves M.hold i l (M.enough i l)

  most_is : stock g (end g named) ≡ most
  most_is = ap (stock g) w_is ∙ stock_is w w_in

  node_is : (s : ℕ) → node_of w v s ≡ node g named s
  node_is s = ap₂ (λ (a b : ℕ). node_of a b s) (sym w_is) (sym v_is)

  -- ---- the case

  module _ (rates : List ℤ) (supplies demands lanes entries zeros1 zeros2 zeros3 : List ℕ) (run : ℕ) (er : run ≡ most - top)
      (rr : RowsAre (pos 0) (λ s j. cost_in starts costs (node_of w v s + 1) j) (length gives) (length starts) rates) (lr : length rates ≡ 2048)
      (ps : Put 0 (stock_in haves takes w v) 0 (length haves) zeros1 supplies) (ls : length zeros1 ≡ 32)
      (pd : Filled (want_in ceilings named) (length ceilings) zeros2 demands) (ld : length zeros2 ≡ 64)
      (rl : RowsAre 0 (λ s j. lane_in starts ends (node_of w v s + 1) j) (length gives) (length starts) lanes) (ll : length lanes ≡ 2048)
      (pt : Filled (entry_in table top most) (most + 1) zeros3 entries) (lt : length zeros3 ≡ 4001) where
    all_most : length gives * length starts ≤ 2048
    all_most = mul-le-mul M.few A.few

    rates_are : take (length gives * length starts - 0) (drop 0 rates) ≡ rows_of (length gives) (arc_count g) (lane_cost g named)
    rates_are =
        front (length gives * length starts) rates
        ∙ rows_list (pos 0) (lane_cost g named) (length gives) (length starts) rates (omega (arith, all_most))
        (λ i j h q.
        rr i j h q
        ∙ ap (λ (s : ℕ). cost_in starts costs (s + 1) j) (node_is i)
        ∙ slices.rates gives takes starts ends ceilings costs A.ends_long A.ceilings_long A.costs_long ok named i j q)
        ∙ ap (λ (n : ℕ). rows_of (length gives) n (lane_cost g named)) (sym count)

    lanes_are : take (length gives * length starts - 0) (drop 0 lanes) ≡ rows_of (length gives) (arc_count g) (lane_ceiling g named)
    lanes_are =
        front (length gives * length starts) lanes
        ∙ rows_list 0 (lane_ceiling g named) (length gives) (length starts) lanes (omega (arith, all_most))
        (λ i j h q.
        rl i j h q
        ∙ ap (λ (s : ℕ). lane_in starts ends (s + 1) j) (node_is i)
        ∙ slices.lanes gives takes starts ends ceilings costs A.ends_long A.ceilings_long A.costs_long ok named i j q)
        ∙ ap (λ (n : ℕ). rows_of (length gives) n (lane_ceiling g named)) (sym count)

    supplies_are : take (length gives - 0) (drop 0 supplies) ≡ cells (length gives) (λ s. stock g (node g named s))
    supplies_are =
        front (length gives) supplies
        ∙ cells_list 0 (λ s. stock g (node g named s)) (length gives) supplies (omega (arith, ps.long, M.few))
        (λ s l.
        ap (λ (k : ℕ). get_or supplies k 0) (let q : s ≡ 0 + s = omega arith in q)
        ∙ ps.here s (omega (arith, M.haves_long))
        ∙ sym (stock_is (node_of w v s) (nodes_in s l))
        ∙ ap (stock g) (node_is s))

    demands_are : take (length starts - 0) (drop 0 demands) ≡ cells (arc_count g) (want g named)
    demands_are =
        front (length starts) demands
        ∙ cells_list 0 (want g named) (length starts) demands (omega (arith, pd.long, A.few))
        (λ j l.
        pd.here j (omega (arith, A.ceilings_long))
        ∙ slices.wants gives takes starts ends ceilings costs A.ends_long A.ceilings_long A.costs_long ok named j)
        ∙ ap (λ (n : ℕ). cells n (want g named)) (sym count)

    most_small : most ≤ 4000
    most_small = omega (arith, M.most w w_in)

    entries_are : take (most + 1 - 0) (drop 0 entries) ≡ cells (suc (stock g (end g named))) (entry_at g named table)
    entries_are =
        front (most + 1) entries
        ∙ cells_list 0 (entry_at g named table) (most + 1) entries (omega (arith, pt.long, most_small))
        (λ y l. pt.here y l ∙ ap₂ (λ (a b : ℕ). cond (ltb (y + a) b) 0 (get_or table (y + a - b) 0)) (sym top_is) (sym most_is))
        ∙ ap (λ (n : ℕ). cells n (entry_at g named table)) (add-one most ∙ ap suc (sym most_is))

    pub case_is : lent (length gives) (length starts) run 0 (take (length gives * length starts - 0) (drop 0 rates)) (take (length gives - 0) (drop 0 supplies))
        (take (length starts - 0) (drop 0 demands)) (take (length gives * length starts - 0) (drop 0 lanes)) (take (most + 1 - 0) (drop 0 entries)) 2048 4001 4001 ≡ case_of g named table
    case_is =
        ap (λ (r : List ℤ). lent (length gives) (length starts) run 0 r (take (length gives - 0) (drop 0 supplies)) (take (length starts - 0) (drop 0 demands))
        (take (length gives * length starts - 0) (drop 0 lanes)) (take (most + 1 - 0) (drop 0 entries)) 2048 4001 4001) rates_are
        ∙ ap₂ (λ (s d : List ℕ). lent (length gives) (length starts) run 0 (rows_of (length gives) (arc_count g) (lane_cost g named)) s d
        (take (length gives * length starts - 0) (drop 0 lanes)) (take (most + 1 - 0) (drop 0 entries)) 2048 4001 4001) supplies_are demands_are
        ∙ ap₂ (λ (l t : List ℕ). lent (length gives) (length starts) run 0 (rows_of (length gives) (arc_count g) (lane_cost g named))
        (cells (length gives) (λ s. stock g (node g named s))) (cells (arc_count g) (want g named)) l t 2048 4001 4001) lanes_are entries_are
        ∙ ap₂ (λ (n r : ℕ). lent (length gives) n r 0 (rows_of (length gives) (arc_count g) (lane_cost g named))
        (cells (length gives) (λ s. stock g (node g named s))) (cells (arc_count g) (want g named)) (rows_of (length gives) (arc_count g) (lane_ceiling g named))
        (cells (suc (stock g (end g named))) (entry_at g named table)) 2048 4001 4001) (sym count) (er ∙ ap₂ (λ (a b : ℕ). a - b) (sym most_is) (sym top_is))

  -- ---- the answer

  small_stock : (i : ℕ) → i < length gives → stock g i ≤ 4000
  small_stock i l = omega (arith, stock_is i l, M.most i l)

  -- the split stands for a flow that is not below 0
  pub split_fits : (s : ℕ) (t : ℤ) → Cheapest (case_of g named table) (plan_for (case_of g named table) s) s t → (most ≤ s + top) × (s ≤ most)
  split_fits s t h =
      let first = first_supply g named table ok so M.few (omega (arith, count, A.few)) small_stock N.small in (
        omega (arith, h.plan.runs1, h.own_split, most_is, top_is),
        omega (arith, h.plan.plant1, h.own_split, first, most_is),
      )

  module _ (s : ℕ) (t : ℤ) (before after : List ℕ) (h : Cheapest (case_of g named table) (plan_for (case_of g named table) s) s t)
      (e : after ≡ written (plan_for (case_of g named table) s) before) where
    abbrev plan : List ℕ
    plan = plan_for (case_of g named table) s

    cell_is : (j : ℕ) → j < length starts → get_or after (source_of w v (get_or starts j 0 - 1) * length starts + j) 0 ≡ by_row (arc_count g) plan (source g named (start g j)) j
    cell_is j l =
        let i = source_of w v (get_or starts j 0 - 1) in
        ap (λ (x : List ℕ). get_or x (i * length starts + j) 0) e
        ∙ get_or-append plan (drop (length plan) before) 0 (i * length starts + j)
        (omega (arith, h.plan.cells, ap (λ (n : ℕ). length gives * n) count, suc-mul i (length starts), mul-le-mul_right (length starts) (sources_in j l)))
        ∙ ap₂ (λ (a n : ℕ). get_or plan (a * n + j) 0)
        (ap (source_of w v) (sym (ap (λ (a : Arc). a.start - 1) (arc_at_lem j l))) ∙ ap₂ (λ (a b : ℕ). source_of a b (start g j)) (sym w_is) (sym v_is)) (sym count)

    carried_is : s + top - most ≡ row (arc_count g) (by_row (arc_count g) plan) 0 + ceiling g named - stock g (end g named)
    unfolding row_sum
    carried_is = ap₂ (λ (a b : ℕ). a - b) (ap₂ (λ (a b : ℕ). a + b) (sym h.own_split) (sym top_is)) (sym most_is)

    pub flow_told : (old new : List ℕ) → length starts ≤ length old → Put 0 (flow_in after starts w v named (s + top - most)) 0 (length starts) old new
        → Bounded t → CarriedAs g named table old new (Some t)
    unfolding flow_of
    flow_told old new q p bd = (
      flow_of g named plan,
      cheapest_flow_lem g named table so plan s t h,
      put_list 0 (flow_in after starts w v named (s + top - most)) (length starts) old new q p
          ∙ ap₂ (λ (a : List ℕ) (n : ℕ). a ++ drop n old)
          (cells_ext (length starts) (flow_in after starts w v named (s + top - most)) (flow_at g named plan)
          (λ j l. ap₂ (λ (a b : ℕ). cond (eqb j named) a b) carried_is (cell_is j l))
          ∙ ap (λ (n : ℕ). cells n (flow_at g named plan)) (sym count))
          (sym (cells_length (arc_count g) (flow_at g named plan) ∙ count)),
      bd,
    )

  pub nothing_told : (x y : List ℕ) → FoundIs (case_of g named table) x y None → NoFlow g
  nothing_told x y h =
      no_flow g named table so
      (no_plan_there (case_of g named table) (case_formed g named table ok so M.few (omega (arith, count, A.few)) small_stock N.small)
      (case_entries g named table ok so M.few (omega (arith, count, A.few)) small_stock N.small) (omega arith) (omega arith) (omega arith)
      h.found.1 h.found.2 h.found.3 h.found.4)

-- the planner's answer to the slices is that to the case
pub found_split : {c d : Case} {x y : List ℕ} {r : Option Found} {f : Found} → c ≡ d → FoundIs c x y r → r ≡ Some f
    → Cheapest d (plan_for d f.split) f.split f.total × (y ≡ written (plan_for d f.split) x) × Bounded f.total
found_split {c} {d} {x} {y} {r} {f} e h q =
    subst (λ (c : Case). FoundAs c x y (Some f)) e (subst (FoundAs c x y) q h.found)

pub found_nothing : {c d : Case} {x y : List ℕ} {r : Option Found} → c ≡ d → FoundIs c x y r → r ≡ None → FoundIs d x y None
found_nothing {c} {d} {x} {y} {r} e h q = record { found = subst (λ (c : Case). FoundAs c x y None) e (subst (FoundAs c x y) q h.found) }

-- the total as the machine hands it on
pub flow_total : (g : Network) (named : ℕ) (table old new : List ℕ) (t : ℤ) → Bounded t → CarriedAs g named table old new (Some t)
    → CarriedAs g named table old new (Some (to_z w64 (of_z w64 t)))
flow_total g named table old new t b h = subst (λ (z : ℤ). CarriedAs g named table old new (Some z)) (sym (read_back t (bounded_fits t b))) h

pub carried_flow : {g : Network} {named : ℕ} {table x y : List ℕ} {r : Option ℤ} {t : ℤ} → CarriedIs g named table x y r → r ≡ Some t
    → CarriedAs g named table x y (Some (to_z w64 (of_z w64 t)))
carried_flow {g} {named} {table} {x} {y} {r} {t} h q = let k = subst (CarriedAs g named table x y) q h.told in flow_total g named table x y t k.3 k

pub carried_nothing : {g : Network} {named : ℕ} {table x y : List ℕ} {r : Option ℤ} → CarriedIs g named table x y r → r ≡ None → NoFlow g × (y ≡ x)
carried_nothing {g} {named} {table} {x} {y} {r} h q = subst (CarriedAs g named table x y) q h.told
