-- What refusal 30 and the two checks before the planner leave: a sound network, a case of the planner's form; and where a check fails, no flow.
-- Assumes nothing.
use mathlib.Core.Path.{◌≡◌, refl, sym, ap, ap₂, ◌∙◌}
use mathlib.Core.Logic.{◌≢◌}
use mathlib.Core.Bool.{Bool, true, false, not, ◌||◌, true≢false}
use mathlib.Core.List.{List}
use Prim.Native.Nat.{ℕ, ◌+◌, ◌-◌, ◌≤◌, ◌<◌}
use native.Mathlib.Decide.{ℕ_discrete}
use native.Mathlib.Omega.{arith}
use lib.Dec.{eqb, ltb}
use lib.IntN.{ℤ, pos, negsuc, neg_ℤ, nat_abs, ◌+ℤ◌}
use lib.Signed.{lt_z}
use lib.ListN.{length, get_or, length-map, get_or-map}
use borrow.Author.Tests.{ltb-false, eqb-false, not-false, le-ltb}
use Rattle.transport.specs.Sum.{sum}
use Rattle.transport.proofs.Sums.{sum_mono}
use Rattle.problem.specs.Integer.{eq_z, sumℤ}
use Rattle.dimacs.specs.Arc.{Arc, arc}
use Rattle.flow_problem.specs.Network.{Network, arc_count, arc_at, start, end, ceiling, cost, supply, listed, at, leaving, entering, Flow, amount, NoFlow}
use Rattle.flow_problem.specs.inner.Reduce.{stock}
use Rattle.flow_problem.specs.inner.Sound.{Sound, uneven}
use Rattle.dimacs.specs.Form.{ArcLine, NodeLine, File}
use Rattle.dimacs.specs.Lines.{any_of, no_node, twice, bad_arc}
use Rattle.flow_problem.specs.Answer.{network_of, any_below, bad_file}
use Rattle.transport.proofs.Differences.{pos_sub, sub_add, sub_pos}
use Rattle.flow_problem.proofs.SumsByNode.{at_same, at_other, regroup}
use Rattle.flow_problem.proofs.FlowListing.{or_both, none_below, below_none, none_of, eq_z_true, true_eq_z}
use Rattle.problem.proofs.TestsPassed.{either_first, either_second}
use Rattle.problem.proofs.RaisedFreight.{sum_above}

-- ---- integers

not_below : (z : ℤ) → lt_z z (pos 0) ≡ false → z ≡ pos (nat_abs z)
not_below (pos n) e = refl
not_below (negsuc n) e = absurd (true≢false e)

pub at_most : (n m : ℕ) → lt_z (pos m) (pos n) ≡ false → n ≤ m
at_most n m e = ltb-false m n e

-- ---- arcs in order

-- every arc leads from one node to another
pub record Proper (g : Network) : Type 0 where
  pub starts : (j : ℕ) → j < arc_count g → start g j < g.nodes
  pub ends : (j : ℕ) → j < arc_count g → end g j < g.nodes
  pub apart : (j : ℕ) → j < arc_count g → start g j ≢ end g j
  pub ceilings : (j : ℕ) → j < arc_count g → ceiling g j ≤ 4000
  pub starts_numbered : (j : ℕ) → j < arc_count g → 1 ≤ (arc_at g j).start
  pub ends_numbered : (j : ℕ) → j < arc_count g → 1 ≤ (arc_at g j).end
  pub costs_low : (j : ℕ) → j < arc_count g → lt_z (cost g j) (neg_ℤ (pos 1000000)) ≡ false
  pub costs_high : (j : ℕ) → j < arc_count g → lt_z (pos 1000000) (cost g j) ≡ false

-- the tests of a list of tests that all pass
six : (a b c d e f : Bool) → (a || (b || (c || (d || (e || f))))) ≡ false → (a ≡ false) × (b ≡ false) × (c ≡ false) × (d ≡ false) × (e ≡ false) × (f ≡ false)
six a b c d e f h =
    let h₁ = either_second a (b || (c || (d || (e || f)))) h in
    let h₂ = either_second b (c || (d || (e || f))) h₁ in
    let h₃ = either_second c (d || (e || f)) h₂ in
    let h₄ = either_second d (e || f) h₃ in
    (either_first a _ h, either_first b _ h₁, either_first c _ h₂, either_first d _ h₃, either_first e f h₄, either_second e f h₄)

pub four : (a b c d : Bool) → (a || (b || (c || d))) ≡ false → (a ≡ false) × (b ≡ false) × (c ≡ false) × (d ≡ false)
four a b c d h =
    let h₁ = either_second a (b || (c || d)) h in
    let h₂ = either_second b (c || d) h₁ in
    (either_first a _ h, either_first b _ h₁, either_first c d h₂, either_second c d h₂)

-- an a line that passes
pub record Passes (nodes : ℕ) (v : ArcLine) : Type 0 where
  pub start_low : 1 ≤ v.arc.start
  pub start_high : v.arc.start ≤ nodes
  pub end_low : 1 ≤ v.arc.end
  pub end_high : v.arc.end ≤ nodes
  pub apart : v.arc.start ≢ v.arc.end
  pub ceiling : v.arc.ceiling ≤ 4000
  pub cost_low : lt_z v.arc.cost (neg_ℤ (pos 1000000)) ≡ false
  pub cost_high : lt_z (pos 1000000) v.arc.cost ≡ false

pub passes : (nodes : ℕ) (v : ArcLine) → bad_arc nodes v ≡ false → Passes nodes v
passes nodes v e =
    let t = six (no_node nodes v.arc.start) (no_node nodes v.arc.end) (eqb v.arc.start v.arc.end) (ltb 0 v.low) (ltb 4000 v.arc.ceiling)
    (lt_z v.arc.cost (neg_ℤ (pos 1000000)) || lt_z (pos 1000000) v.arc.cost) e in
    record {
      start_low = ltb-false v.arc.start 1 (either_first _ _ t.0);
      start_high = ltb-false nodes v.arc.start (either_second (ltb v.arc.start 1) _ t.0);
      end_low = ltb-false v.arc.end 1 (either_first _ _ t.1);
      end_high = ltb-false nodes v.arc.end (either_second (ltb v.arc.end 1) _ t.1);
      apart = eqb-false v.arc.start v.arc.end t.2;
      ceiling = ltb-false 4000 v.arc.ceiling t.4;
      cost_low = either_first _ _ t.5;
      cost_high = either_second (lt_z v.arc.cost (neg_ℤ (pos 1000000))) _ t.5;
    }

no_line : ArcLine
no_line = record { low = 0; arc = arc 0 0 0 (pos 0) }

module _ (f : File) (bad : bad_file f ≡ false) where
  tests : (ltb 32 f.nodes ≡ false) × (ltb 64 (length f.arcs) ≡ false) × (any_of (λ (v : NodeLine). no_node f.nodes v.id) f.supplies ≡ false)
      × (twice f.supplies ≡ false) × (any_of (bad_arc f.nodes) f.arcs ≡ false) × (any_below f.nodes (λ i. lt_z (pos 4000) (amount (network_of f) i)) ≡ false)
  unfolding bad_file
  tests =
      six (ltb 32 f.nodes) (ltb 64 (length f.arcs)) (any_of (λ (v : NodeLine). no_node f.nodes v.id) f.supplies) (twice f.supplies)
      (any_of (bad_arc f.nodes) f.arcs) (any_below f.nodes (λ i. lt_z (pos 4000) (amount (network_of f) i))) bad

  pub count_is : arc_count (network_of f) ≡ length f.arcs
  unfolding network_of
  count_is = length-map f.arcs (λ (v : ArcLine). v.arc)

  arc_is : (j : ℕ) → arc_at (network_of f) j ≡ (get_or f.arcs j no_line).arc
  unfolding network_of no_line
  arc_is j = get_or-map (λ (v : ArcLine). v.arc) f.arcs j no_line

  arc_passes : (j : ℕ) → j < arc_count (network_of f) → Passes f.nodes (get_or f.arcs j no_line)
  arc_passes j l = passes f.nodes (get_or f.arcs j no_line) (none_of (bad_arc f.nodes) f.arcs no_line tests.4 j (omega (arith, count_is)))

  nodes_is : (network_of f).nodes ≡ f.nodes
  unfolding network_of
  nodes_is = refl

  pub proper : Proper (network_of f)
  proper = record {
    starts = λ j l. let p = arc_passes j l in omega (arith, ap (λ (a : Arc). a.start) (arc_is j), p.start_low, p.start_high, nodes_is);
    ends = λ j l. let p = arc_passes j l in omega (arith, ap (λ (a : Arc). a.end) (arc_is j), p.end_low, p.end_high, nodes_is);
    apart = λ j l e.
        let p = arc_passes j l in
        p.apart (omega (arith, e, ap (λ (a : Arc). a.start) (arc_is j), ap (λ (a : Arc). a.end) (arc_is j), p.start_low, p.end_low));
    ceilings = λ j l. let p = arc_passes j l in omega (arith, ap (λ (a : Arc). a.ceiling) (arc_is j), p.ceiling);
    starts_numbered = λ j l. omega (arith, ap (λ (a : Arc). a.start) (arc_is j), (arc_passes j l).start_low);
    ends_numbered = λ j l. omega (arith, ap (λ (a : Arc). a.end) (arc_is j), (arc_passes j l).end_low);
    costs_low = λ j l. ap (λ (a : Arc). lt_z a.cost (neg_ℤ (pos 1000000))) (arc_is j) ∙ (arc_passes j l).cost_low;
    costs_high = λ j l. ap (λ (a : Arc). lt_z (pos 1000000) a.cost) (arc_is j) ∙ (arc_passes j l).cost_high;
  }

  pub few_nodes : (network_of f).nodes ≤ 32
  few_nodes = omega (arith, nodes_is, ltb-false 32 f.nodes tests.0)

  pub few_arcs : arc_count (network_of f) ≤ 64
  few_arcs = omega (arith, count_is, ltb-false 64 (length f.arcs) tests.1)

  pub small_amount : (i : ℕ) → i < (network_of f).nodes → lt_z (pos 4000) (amount (network_of f) i) ≡ false
  small_amount i l = none_below f.nodes (λ i. lt_z (pos 4000) (amount (network_of f) i)) tests.5 i (omega (arith, nodes_is))

-- ---- the two checks

module _ (g : Network) (ok : Proper g) where
  module _ (even : uneven g ≡ false) where
    pub amounts_are : (i : ℕ) → i < g.nodes → amount g i ≡ pos (stock g i)
    unfolding uneven stock
    amounts_are i l = not_below (amount g i) (none_below g.nodes (λ i. lt_z (amount g i) (pos 0)) (either_second (not (eq_z (sumℤ g.nodes (supply g)) (pos 0))) _ even) i l)

    pub sum_zero : sumℤ g.nodes (supply g) ≡ pos 0
    unfolding uneven
    sum_zero = eq_z_true (sumℤ g.nodes (supply g)) (pos 0) (not-false _ (either_first _ _ even))

  pub sound : uneven g ≡ false → (named : ℕ) → named < arc_count g → Sound g named
  sound even named l = record {
    starts = ok.starts;
    ends = ok.ends;
    apart = ok.apart;
    ceilings = ok.ceilings;
    place = l;
    amounts = amounts_are even;
    balanced = sum_zero even;
  }

  -- a flow's supplies sum to 0
  flow_sum : (x : List ℕ) → Flow g x → sumℤ g.nodes (supply g) ≡ pos 0
  unfolding leaving entering
  flow_sum x f =
      (sum_above g.nodes (supply g) (leaving g (listed x)) (entering g (listed x)) (λ i l. record { is = sym (f.conserved i l) })).is
      ∙ sub_pos (sum g.nodes (leaving g (listed x))) (sum g.nodes (entering g (listed x))) 0
      (omega (arith, regroup g.nodes (arc_count g) (start g) (listed x) ok.starts, regroup g.nodes (arc_count g) (end g) (listed x) ok.ends))

  -- and no amount is below 0
  flow_amount : (x : List ℕ) → Flow g x → (i : ℕ) → i < g.nodes → lt_z (amount g i) (pos 0) ≡ false
  unfolding amount leaving entering
  flow_amount x f i l =
      let out = leaving g (listed x) i in
      let inn = entering g (listed x) i in
      let most = entering g (ceiling g) i in
      ap (λ (z : ℤ). lt_z z (pos 0))
      (ap₂ (λ (a b : ℤ). a +ℤ b) (sym (f.conserved i l)) (pos_sub most)
      ∙ sub_add out inn most 0
      ∙ sub_pos (out + most) (inn + 0) (out + (most - inn))
      (omega (arith, sum_mono (arc_count g) (λ k. at (end g k) i (listed x k)) (λ k. at (end g k) i (ceiling g k)) (λ k h. part (end g k) i (listed x k) (ceiling g k) (f.within k h)))))
      ∙ le-ltb (out + (most - inn)) 0 (omega arith)
    where
      part : (a b v w : ℕ) → v ≤ w → at a b v ≤ at a b w
      part a b v w h = elim (ℕ_discrete a b) [
        | yes e ↦ omega (arith, at_same a b v e, at_same a b w e)
        | no d ↦ omega (arith, at_other a b v d)
      ]

  -- where a check fails there is no flow
  pub uneven_none : uneven g ≡ true → NoFlow g
  unfolding uneven
  uneven_none e x f =
      true≢false
      (sym e
      ∙ or_both (not (eq_z (sumℤ g.nodes (supply g)) (pos 0))) (any_below g.nodes (λ i. lt_z (amount g i) (pos 0)))
      (ap not (true_eq_z (sumℤ g.nodes (supply g)) (pos 0) (flow_sum x f)))
      (below_none g.nodes (λ i. lt_z (amount g i) (pos 0)) (flow_amount x f)))
