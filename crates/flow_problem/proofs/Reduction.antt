-- The theorem of section 5: flows of a network and plans of its case, with the same totals, and splits in step with the named arc's flow. Assumes
-- nothing.
use mathlib.Core.Path.{◌≡◌, refl, sym, ap, ap₂, ◌∙◌, subst}
use mathlib.Core.Logic.{◌≢◌}
use mathlib.Core.Bool.{Bool, cond, ◌||◌}
use mathlib.Core.List.{List}
use Prim.Native.Nat.{ℕ, suc, ◌+◌, ◌-◌, ◌≤◌, ◌<◌}
use native.Mathlib.Decide.{ℕ_discrete}
use native.Mathlib.Omega.{arith}
use lib.Dec.{eqb}
use lib.IntN.{ℤ, pos, ◌+ℤ◌, ◌*ℤ◌, *ℤ-zero, zero-*ℤ}
use lib.Signed.{◌≤ℤ◌, ◌<ℤ◌}
use lib.ListN.{length}
use borrow.Author.Tests.{eq-eqb, ne_eqb, le-ltb}
use Rattle.transport.specs.Sum.{sum}
use Rattle.transport.specs.Plan.{by_row, row, col}
use Rattle.transport.proofs.Sums.{sum_ext, sum_at}
use Rattle.problem.specs.Integer.{sumℤ}
use Rattle.flow_problem.specs.Answer.{CheapestFlow}
use Rattle.flow_problem.specs.Network.{Network, arc_count, start, end, ceiling, cost, listed, Flow, own_cost, flow_total, NoFlow}
use Rattle.problem.specs.Case.{Case, supply as supplyOf, entry}
use Rattle.problem.specs.Freight.{rates_by_row, freightℤ}
use Rattle.problem.specs.Plans.{freight_of, row_sum, column_sum, MeetsTP, plan_total}
use Rattle.problem.specs.Promise.{Cheapest, NoPlan}
use Rattle.flow_problem.specs.inner.Reduce.{node, source, stock, lane_cost, lane_ceiling, want, entry_at, case_of, flow_at, flow_of, sent_at, plan_of}
use Rattle.flow_problem.specs.inner.Sound.{Sound}
use Rattle.flow_problem.proofs.SumsByNode.{cond_same, cond_other, at_same, at_other, sum_two_at, sumℤ_ext, sumℤ_swap, sumℤ_one}
use Rattle.flow_problem.proofs.PlanAsFlow.{Carries, sends, kept_last}
use Rattle.flow_problem.proofs.NodesAndSources.{cells_length, cells_at, rows_length, rows_at, node_source, source_node, node_below}
use Rattle.flow_problem.proofs.NodesAndSources.{source_below, node_0, node_1, source_w, source_v, source_depot, depot_w, depot_v}
use Rattle.flow_problem.proofs.FlowListing.{named_flow_lem}
use Rattle.flow_problem.proofs.Conservation.{graph, stock_sum, KeptAt, kept_of, conserved_of}

-- unit costs of a case, by source and terminal
abbrev rate : Case → ℕ → ℕ → ℤ
rate c = rates_by_row c.n c.costs

-- what node i sends to arc j in a plan of the case
abbrev pub by_node : Network → ℕ → List ℕ → ℕ → ℕ → ℕ
by_node g k plan i j = by_row (arc_count g) plan (source g k i) j

-- the plan and the flow belong together
abbrev pub Together : Network → ℕ → List ℕ → List ℕ → Type 0
Together g k plan x = Carries g.nodes (arc_count g) (start g) (end g) (ceiling g) k (by_node g k plan) (listed x)

module _ (g : Network) (k : ℕ) (table : List ℕ) (ok : Sound g k) where
  wn : end g k < g.nodes
  wn = ok.ends k ok.place

  vn : start g k < g.nodes
  vn = ok.starts k ok.place

  vw : start g k ≢ end g k
  vw = ok.apart k ok.place

  node_in : (s : ℕ) → s < g.nodes → node g k s < g.nodes
  node_in s l = node_below (end g k) (start g k) g.nodes wn vn vw s l

  source_in : (i : ℕ) → i < g.nodes → source g k i < g.nodes
  source_in i l = source_below (end g k) (start g k) g.nodes wn vn vw i l

  -- ---- rows and columns of a plan

  -- what source s sends is what its node sends
  row_node : (plan : List ℕ) (s : ℕ) → row_sum (case_of g k table) plan s ≡ sum (arc_count g) (by_node g k plan (node g k s))
  unfolding row_sum row
  row_node plan s =
      sum_ext (arc_count g) _ _ (λ j l. ap (λ (t : ℕ). by_row (arc_count g) plan t j) (sym (source_node (end g k) (start g k) s)))

  row_of : (plan : List ℕ) (i : ℕ) → row_sum (case_of g k table) plan (source g k i) ≡ sum (arc_count g) (by_node g k plan i)
  unfolding row_sum row
  row_of plan i = refl

  row_w : (plan : List ℕ) → row_sum (case_of g k table) plan 0 ≡ sum (arc_count g) (by_node g k plan (end g k))
  row_w plan = ap (row_sum (case_of g k table) plan) (sym (source_w (end g k) (start g k) vw)) ∙ row_of plan (end g k)

  row_v : (plan : List ℕ) → row_sum (case_of g k table) plan 1 ≡ sum (arc_count g) (by_node g k plan (start g k))
  row_v plan = ap (row_sum (case_of g k table) plan) (sym (source_v (end g k) (start g k) vw)) ∙ row_of plan (start g k)

  -- two different nodes are two different sources
  other_source : (i j : ℕ) → i ≢ j → source g k i ≢ source g k j
  other_source i j d e =
      d (sym (node_source (end g k) (start g k) i) ∙ ap (node g k) e ∙ node_source (end g k) (start g k) j)

  -- a terminal gets what its arc's two nodes send, where no other node sends anything
  column_of : (plan : List ℕ) (j : ℕ) → j < arc_count g → ((i : ℕ) → i < g.nodes → i ≢ start g j → i ≢ end g j → by_node g k plan i j ≡ 0)
      → column_sum (case_of g k table) plan j ≡ by_node g k plan (start g j) j + by_node g k plan (end g j) j
  unfolding column_sum col
  column_of plan j l h =
      sum_two_at g.nodes (source g k (start g j)) (source g k (end g j)) (λ s. by_row (arc_count g) plan s j) (source_in (start g j) (ok.starts j l))
      (source_in (end g j) (ok.ends j l)) (other_source (start g j) (end g j) (ok.apart j l))
      (λ s q a b.
      ap (λ (t : ℕ). by_row (arc_count g) plan t j) (sym (source_node (end g k) (start g k) s))
      ∙ h (node g k s) (node_in s q) (λ e. a (sym (source_node (end g k) (start g k) s) ∙ ap (source g k) e))
      (λ e. b (sym (source_node (end g k) (start g k) s) ∙ ap (source g k) e)))

  -- ---- the totals

  cell_cost : (plan x : List ℕ) → Together g k plan x → (j : ℕ) → j < arc_count g
      → sumℤ g.nodes (λ s. rate (case_of g k table) s j *ℤ pos (by_row (arc_count g) plan s j)) ≡ own_cost g k x j
  unfolding own_cost
  cell_cost plan x t j l = elim (ℕ_discrete j k) [ yes e ↦ at_named e ∙ sym (cond_same j k (pos 0) _ e) | no d ↦ at_other_arc d ∙ sym (cond_other j k (pos 0) _ d) ]
    where
      rate_is : (s : ℕ) → s < g.nodes → rate (case_of g k table) s j ≡ lane_cost g k s j
      rate_is s q = rows_at g.nodes (arc_count g) (lane_cost g k) (pos 0) s j q l

      elsewhere : (s : ℕ) → s < g.nodes → s ≢ source g k (start g j) → rate (case_of g k table) s j *ℤ pos (by_row (arc_count g) plan s j) ≡ pos 0
      elsewhere s q d =
          ap (λ (z : ℤ). z *ℤ pos (by_row (arc_count g) plan s j))
          (rate_is s q ∙ cond_other (node g k s) (start g j) (cost g j) (pos 0) (λ e. d (sym (source_node (end g k) (start g k) s) ∙ ap (source g k) e)))
          ∙ zero-*ℤ (pos (by_row (arc_count g) plan s j))

      here : sumℤ g.nodes (λ s. rate (case_of g k table) s j *ℤ pos (by_row (arc_count g) plan s j)) ≡ cost g j *ℤ pos (by_node g k plan (start g j) j)
      here =
          sumℤ_one g.nodes (source g k (start g j)) _ (source_in (start g j) (ok.starts j l)) elsewhere
          ∙ ap (λ (z : ℤ). z *ℤ pos (by_node g k plan (start g j) j))
          (rate_is (source g k (start g j)) (source_in (start g j) (ok.starts j l))
          ∙ cond_same (node g k (source g k (start g j))) (start g j) (cost g j) (pos 0) (node_source (end g k) (start g k) (start g j)))

      at_named : j ≡ k → sumℤ g.nodes (λ s. rate (case_of g k table) s j *ℤ pos (by_row (arc_count g) plan s j)) ≡ pos 0
      at_named e =
          here
          ∙ ap (λ (v : ℕ). cost g j *ℤ pos v) (ap (by_node g k plan (start g j)) e ∙ t.none (start g j) (ok.starts j l))
          ∙ *ℤ-zero (cost g j)

      at_other_arc : j ≢ k → sumℤ g.nodes (λ s. rate (case_of g k table) s j *ℤ pos (by_row (arc_count g) plan s j)) ≡ cost g j *ℤ pos (listed x j)
      at_other_arc d = here ∙ ap (λ (v : ℕ). cost g j *ℤ pos v) (t.first j l d)

  freight_is : (plan x : List ℕ) → Together g k plan x
      → freightℤ g.nodes (arc_count g) (rate (case_of g k table)) (by_row (arc_count g) plan) ≡ sumℤ (arc_count g) (own_cost g k x)
  unfolding freightℤ
  freight_is plan x t =
      sumℤ_swap g.nodes (arc_count g) (λ s j. rate (case_of g k table) s j *ℤ pos (by_row (arc_count g) plan s j))
      ∙ sumℤ_ext (arc_count g) _ _ (λ j l. cell_cost plan x t j l)

  -- the split is in step with the flow on the named arc
  abbrev pub Step : List ℕ → List ℕ → Type 0
  Step plan x = row_sum (case_of g k table) plan 0 + ceiling g k ≡ stock g (end g k) + listed x k

  entry_is : (plan x : List ℕ) → Step plan x → listed x k ≤ ceiling g k → entry (case_of g k table) (row_sum (case_of g k table) plan 0) ≡ listed table (listed x k)
  entry_is plan x e l =
      let y = row_sum (case_of g k table) plan 0 in
      cells_at (suc (stock g (end g k))) (entry_at g k table) 0 y (omega arith)
      ∙ ap (λ (t : Bool). cond t 0 (listed table (y + ceiling g k - stock g (end g k)))) (le-ltb (y + ceiling g k) (stock g (end g k)) (omega arith))
      ∙ ap (listed table) (let q : y + ceiling g k - stock g (end g k) ≡ listed x k = omega arith in q)

  total_is : (plan x : List ℕ) → Together g k plan x → Step plan x → listed x k ≤ ceiling g k → plan_total (case_of g k table) plan ≡ flow_total g k table x
  unfolding plan_total freight_of flow_total
  total_is plan x t e l = ap₂ (λ (a : ℤ) (b : ℕ). a +ℤ pos b) (freight_is plan x t) (entry_is plan x e l)

  -- ---- what a node sends, and conservation there

  module _ (plan x : List ℕ) (t : Together g k plan x) where
    abbrev Row : ℕ → ℕ
    Row i = sum (arc_count g) (by_node g k plan i)

    at_w : KeptAt ok x (end g k) → Row (end g k) + ceiling g k ≡ stock g (end g k) + listed x k
    at_w h =
        omega (
          arith,
          sends (graph ok) t (end g k) wn,
          at_same (end g k) (end g k) (ceiling g k) refl,
          at_same (end g k) (end g k) (listed x k) refl,
          at_other (start g k) (end g k) (listed x k) vw,
        )

    w_at : Row (end g k) + ceiling g k ≡ stock g (end g k) + listed x k → KeptAt ok x (end g k)
    w_at h =
        omega (
          arith,
          sends (graph ok) t (end g k) wn,
          at_same (end g k) (end g k) (ceiling g k) refl,
          at_same (end g k) (end g k) (listed x k) refl,
          at_other (start g k) (end g k) (listed x k) vw,
        )

    at_v : KeptAt ok x (start g k) → Row (start g k) + listed x k ≡ stock g (start g k)
    at_v h =
        omega (
          arith,
          sends (graph ok) t (start g k) vn,
          at_other (end g k) (start g k) (ceiling g k) (λ e. vw (sym e)),
          at_other (end g k) (start g k) (listed x k) (λ e. vw (sym e)),
          at_same (start g k) (start g k) (listed x k) refl,
        )

    at_depot : (i : ℕ) → i < g.nodes → i ≢ end g k → i ≢ start g k → KeptAt ok x i → Row i ≡ stock g i
    at_depot i l a b h =
        omega (
          arith,
          sends (graph ok) t i l,
          at_other (end g k) i (ceiling g k) (λ e. a (sym e)),
          at_other (end g k) i (listed x k) (λ e. a (sym e)),
          at_other (start g k) i (listed x k) (λ e. b (sym e)),
        )

    depot_at : (i : ℕ) → i < g.nodes → i ≢ end g k → i ≢ start g k → Row i ≡ stock g i → KeptAt ok x i
    depot_at i l a b h =
        omega (
          arith,
          sends (graph ok) t i l,
          at_other (end g k) i (ceiling g k) (λ e. a (sym e)),
          at_other (end g k) i (listed x k) (λ e. a (sym e)),
          at_other (start g k) i (listed x k) (λ e. b (sym e)),
        )

  -- ---- from a flow to a plan

  module _ (x : List ℕ) (f : Flow g x) where
    sent_is : (s j : ℕ) → s < g.nodes → j < arc_count g → by_row (arc_count g) (plan_of g k x) s j ≡ sent_at g k x (node g k s) j
    unfolding plan_of
    sent_is s j h l = rows_at g.nodes (arc_count g) (λ s j. sent_at g k x (node g k s) j) 0 s j h l

    by_node_lem : (i j : ℕ) → i < g.nodes → j < arc_count g → by_node g k (plan_of g k x) i j ≡ sent_at g k x i j
    by_node_lem i j h l =
        sent_is (source g k i) j (source_in i h) l ∙ ap (λ (t : ℕ). sent_at g k x t j) (node_source (end g k) (start g k) i)

    planned : Together g k (plan_of g k x) x
    planned = record {
      off = λ i j h l d a b. by_node_lem i j h l ∙ cond_other j k 0 _ d ∙ cond_other i (start g j) _ _ a ∙ cond_other i (end g j) _ _ b;
      first = λ j l d. by_node_lem (start g j) j (ok.starts j l) l ∙ cond_other j k 0 _ d ∙ cond_same (start g j) (start g j) _ _ refl;
      rest = λ j l d.
          let q = by_node_lem (end g j) j (ok.ends j l) l ∙ cond_other j k 0 _ d ∙ cond_other (end g j) (start g j) _ _ (λ e. ok.apart j l (sym e)) ∙ cond_same (end g j) (end g j) _ _ refl in
          omega (arith, q, f.within j l);
      none = λ i h. by_node_lem i k h ok.place ∙ cond_same k k 0 _ refl;
    }

    pub step_of_flow : Step (plan_of g k x) x
    step_of_flow = omega (arith, row_w (plan_of g k x), at_w (plan_of g k x) x planned (kept_of ok x f (end g k) wn))

    second : row_sum (case_of g k table) (plan_of g k x) 1 + listed x k ≡ stock g (start g k)
    second = omega (arith, row_v (plan_of g k x), at_v (plan_of g k x) x planned (kept_of ok x f (start g k) vn))

    demands : (j : ℕ) → j < arc_count g → Dec (j ≡ k) → column_sum (case_of g k table) (plan_of g k x) j ≡ want g k j
    demands j l (yes e) =
        column_of (plan_of g k x) j l (λ i h a b. ap (by_node g k (plan_of g k x) i) e ∙ planned.none i h)
        ∙ omega (
          arith,
          ap (by_node g k (plan_of g k x) (start g j)) e ∙ planned.none (start g j) (ok.starts j l),
          ap (by_node g k (plan_of g k x) (end g j)) e ∙ planned.none (end g j) (ok.ends j l),
          cond_same j k 0 (ceiling g j) e,
        )
    demands j l (no d) =
        column_of (plan_of g k x) j l (λ i h a b. planned.off i j h l d a b)
        ∙ omega (arith, planned.first j l d, planned.rest j l d, cond_other j k 0 (ceiling g j) d)

    open_lane : (s j : ℕ) → j < arc_count g → Dec (j ≡ k) → Dec (node g k s ≡ start g j) → Dec (node g k s ≡ end g j)
        → sent_at g k x (node g k s) j ≤ lane_ceiling g k s j
    open_lane s j l (yes e) a b = omega (arith, cond_same j k 0 (cond (eqb (node g k s) (start g j)) (listed x j) (cond (eqb (node g k s) (end g j)) (ceiling g j - listed x j) 0)) e)
    open_lane s j l (no d) (yes a) b =
        omega (
          arith,
          cond_other j k 0 _ d ∙ cond_same (node g k s) (start g j) (listed x j) (cond (eqb (node g k s) (end g j)) (ceiling g j - listed x j) 0) a,
          ap {B = ℕ} (λ (t : Bool). cond (t || eqb (node g k s) (end g j)) 4000 0) (eq-eqb (node g k s) (start g j) a),
          f.within j l,
          ok.ceilings j l,
        )
    open_lane s j l (no d) (no a) (yes b) =
        omega (
          arith,
          cond_other j k 0 _ d ∙ cond_other (node g k s) (start g j) (listed x j) _ a ∙ cond_same (node g k s) (end g j) (ceiling g j - listed x j) 0 b,
          ap₂ {C = ℕ} (λ (t q : Bool). cond (t || q) 4000 0) (ne_eqb (node g k s) (start g j) a) (eq-eqb (node g k s) (end g j) b),
          ok.ceilings j l,
        )
    open_lane s j l (no d) (no a) (no b) =
        omega (
          arith,
          cond_other j k 0 _ d ∙ cond_other (node g k s) (start g j) (listed x j) _ a ∙ cond_other (node g k s) (end g j) (ceiling g j - listed x j) 0 b,
        )

    supply_at : (s : ℕ) → s < g.nodes → supplyOf (case_of g k table) s ≡ stock g (node g k s)
    supply_at s l = cells_at g.nodes (λ s. stock g (node g k s)) 0 s l

    pub plan_of_flow : MeetsTP (case_of g k table) (plan_of g k x)
    unfolding plan_of
    plan_of_flow = record {
      cells = rows_length g.nodes (arc_count g) (λ s j. sent_at g k x (node g k s) j);
      plant1 = omega (arith, step_of_flow, f.within k ok.place, supply_at 0 (omega (arith, wn)), ap (stock g) (node_0 (end g k) (start g k) vw));
      runs1 = omega (arith, step_of_flow);
      plant2 = omega (arith, second, supply_at 1 (two_in), ap (stock g) (node_1 (end g k) (start g k) vw));
      runs2 = omega arith;
      depots = λ s a h.
          omega (
            arith,
            row_node (plan_of g k x) s,
            at_depot (plan_of g k x) x planned (node g k s) (node_in s h) (depot_w (end g k) (start g k) vw s a) (depot_v (end g k) (start g k) vw s a) (kept_of ok x f (node g k s) (node_in s h)),
            supply_at s h,
          );
      terminals = λ j l. demands j l (ℕ_discrete j k) ∙ sym (cells_at (arc_count g) (want g k) 0 j l);
      lanes = λ s j h l.
          omega (
            arith,
            sent_is s j h l,
            open_lane s j l (ℕ_discrete j k) (ℕ_discrete (node g k s) (start g j)) (ℕ_discrete (node g k s) (end g j)),
            rows_at g.nodes (arc_count g) (lane_ceiling g k) 0 s j h l,
          );
    }
      where
        two_in : 1 < g.nodes
        two_in = omega (arith, source_in (start g k) vn, source_v (end g k) (start g k) vw)

    pub total_of_flow : plan_total (case_of g k table) (plan_of g k x) ≡ flow_total g k table x
    total_of_flow = total_is (plan_of g k x) x planned step_of_flow (f.within k ok.place)

  -- ---- from a plan to a flow

  module _ (plan : List ℕ) (p : MeetsTP (case_of g k table) plan) where
    flow_is : (j : ℕ) → j < arc_count g → listed (flow_of g k plan) j ≡ flow_at g k plan j
    unfolding flow_of
    flow_is j l = cells_at (arc_count g) (flow_at g k plan) 0 j l

    first_supply : row_sum (case_of g k table) plan 0 ≤ stock g (end g k)
    first_supply =
        omega (
          arith,
          p.plant1,
          cells_at g.nodes (λ s. stock g (node g k s)) 0 0 (omega (arith, wn)),
          ap (stock g) (node_0 (end g k) (start g k) vw),
        )

    pub step_of_plan : Step plan (flow_of g k plan)
    unfolding row_sum
    step_of_plan = omega (arith, flow_is k ok.place ∙ cond_same k k (row (arc_count g) (by_row (arc_count g) plan) 0 + ceiling g k - stock g (end g k)) _ refl, p.runs1)

    closed : (i j : ℕ) → i < g.nodes → j < arc_count g → i ≢ start g j → i ≢ end g j → by_node g k plan i j ≡ 0
    closed i j h l a b =
        omega (
          arith,
          p.lanes (source g k i) j (source_in i h) l,
          rows_at g.nodes (arc_count g) (lane_ceiling g k) 0 (source g k i) j (source_in i h) l
              ∙ ap₂ {C = ℕ} (λ (t q : Bool). cond (t || q) 4000 0)
              (ne_eqb (node g k (source g k i)) (start g j) (λ e. a (sym (node_source (end g k) (start g k) i) ∙ e)))
              (ne_eqb (node g k (source g k i)) (end g j) (λ e. b (sym (node_source (end g k) (start g k) i) ∙ e))),
        )

    taken : (j : ℕ) → j < arc_count g → column_sum (case_of g k table) plan j ≡ want g k j
    taken j l = p.terminals j l ∙ cells_at (arc_count g) (want g k) 0 j l

    drawn : Together g k plan (flow_of g k plan)
    unfolding column_sum col
    drawn = record {
      off = λ i j h l d a b. closed i j h l a b;
      first = λ j l d. sym (flow_is j l ∙ cond_other j k _ _ d);
      rest = λ j l d.
          omega (
            arith,
            flow_is j l ∙ cond_other j k _ (by_node g k plan (start g j) j) d,
            column_of plan j l (λ i h a b. closed i j h l a b),
            taken j l ∙ cond_other j k 0 (ceiling g j) d,
          );
      none = λ i h.
          omega (
            arith,
            sum_at g.nodes (source g k i) (λ s. by_row (arc_count g) plan s k) (source_in i h),
            taken k ok.place ∙ cond_same k k 0 (ceiling g k) refl,
          );
    }

    named_within : listed (flow_of g k plan) k ≤ ceiling g k
    named_within = omega (arith, step_of_plan, first_supply)

    bounded : (j : ℕ) → j < arc_count g → Dec (j ≡ k) → listed (flow_of g k plan) j ≤ ceiling g j
    bounded j l (yes e) = omega (arith, named_within, ap (listed (flow_of g k plan)) e, ap (ceiling g) e)
    bounded j l (no d) = omega (arith, drawn.rest j l d)

    kept_but_v : (i : ℕ) → i < g.nodes → i ≢ start g k → Dec (i ≡ end g k) → KeptAt ok (flow_of g k plan) i
    kept_but_v i l a (yes e) =
        subst (λ (t : ℕ). KeptAt ok (flow_of g k plan) t) (sym e) (w_at plan (flow_of g k plan) drawn (omega (arith, row_w plan, step_of_plan)))
    kept_but_v i l a (no b) =
        depot_at plan (flow_of g k plan) drawn i l b a
        (sym (row_of plan i)
        ∙ p.depots (source g k i) (source_depot (end g k) (start g k) vw i b a) (source_in i l)
        ∙ cells_at g.nodes (λ s. stock g (node g k s)) 0 (source g k i) (source_in i l)
        ∙ ap (stock g) (node_source (end g k) (start g k) i))

    kept_all : (i : ℕ) → i < g.nodes → Dec (i ≡ start g k) → KeptAt ok (flow_of g k plan) i
    kept_all i l (no a) = kept_but_v i l a (ℕ_discrete i (end g k))
    kept_all i l (yes e) =
        subst (λ (t : ℕ). KeptAt ok (flow_of g k plan) t) (sym e)
        (kept_last (graph ok) (ceiling g) (stock g) (listed (flow_of g k plan)) (stock_sum ok) (start g k) vn (λ t h a. kept_but_v t h a (ℕ_discrete t (end g k))))

    long : length (flow_of g k plan) ≡ arc_count g
    unfolding flow_of
    long = cells_length (arc_count g) (flow_at g k plan)

    pub flow_of_plan : Flow g (flow_of g k plan)
    flow_of_plan = record {
      long = long;
      within = λ j l. bounded j l (ℕ_discrete j k);
      conserved = λ i l. conserved_of ok (flow_of g k plan) i l (kept_all i l (ℕ_discrete i (start g k)));
    }

    pub total_of_plan : plan_total (case_of g k table) plan ≡ flow_total g k table (flow_of g k plan)
    total_of_plan = total_is plan (flow_of g k plan) drawn step_of_plan named_within

  -- ---- the theorem

  -- a cheapest plan of the case, at the smallest split where totals are equal, is a cheapest flow, with least on the named arc where totals are equal
  pub cheapest_flow_lem : (plan : List ℕ) (split : ℕ) (total : ℤ) → Cheapest (case_of g k table) plan split total
      → CheapestFlow g k table (flow_of g k plan) total
  cheapest_flow_lem plan split total p = record { flow = flow; own_total = own; least = low; smaller = less; on_named = named_flow_lem g k table x total flow own low less }
    where
      x : List ℕ
      x = flow_of g k plan

      flow : Flow g x
      flow = flow_of_plan plan p.plan

      own : flow_total g k table x ≡ total
      own = sym (total_of_plan plan p.plan) ∙ p.own_total

      low : (z : List ℕ) → Flow g z → total ≤ℤ flow_total g k table z
      low z f = subst (λ (t : ℤ). total ≤ℤ t) (total_of_flow z f) (p.least (plan_of g k z) (plan_of_flow z f))

      less : (z : List ℕ) → Flow g z → listed z k < listed x k → total <ℤ flow_total g k table z
      less z f l =
          subst (λ (t : ℤ). total <ℤ t) (total_of_flow z f)
          (p.smaller (plan_of g k z) (plan_of_flow z f) (omega (arith, step_of_flow z f, step_of_plan plan p.plan, p.own_split)))

  -- and the other way round
  pub cheapest_plan : (x : List ℕ) (total : ℤ) → CheapestFlow g k table x total
      → Cheapest (case_of g k table) (plan_of g k x) (row_sum (case_of g k table) (plan_of g k x) 0) total
  cheapest_plan x total f = record {
    plan = plan_of_flow x f.flow;
    own_split = refl;
    own_total = total_of_flow x f.flow ∙ f.own_total;
    least = λ z p. subst (λ (t : ℤ). total ≤ℤ t) (sym (total_of_plan z p)) (f.least (flow_of g k z) (flow_of_plan z p));
    smaller = λ z p l.
        subst (λ (t : ℤ). total <ℤ t) (sym (total_of_plan z p))
        (f.smaller (flow_of g k z) (flow_of_plan z p) (omega (arith, step_of_plan z p, step_of_flow x f.flow)));
  }

  -- no plan exactly where no flow
  pub no_flow : NoPlan (case_of g k table) → NoFlow g
  no_flow h x f = h (plan_of g k x) (plan_of_flow x f)

  pub no_plan : NoFlow g → NoPlan (case_of g k table)
  no_plan h plan p = h (flow_of g k plan) (flow_of_plan plan p)
