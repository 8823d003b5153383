-- The case of a sound network: the planner does not refuse it for its form. Assumes nothing.
use mathlib.Core.Path.{◌≡◌, refl, sym, ap, ◌∙◌, subst}
use mathlib.Core.Logic.{◌≢◌}
use mathlib.Core.Bool.{Bool, true, false, cond, ◌||◌}
use mathlib.Core.List.{List, ◌++◌}
use Prim.Native.Nat.{ℕ, zero, suc, ◌+◌, ◌-◌, ◌*◌, ◌≤◌, ◌<◌}
use native.Mathlib.Nat.{zero-mul, suc-mul}
use native.Mathlib.Decide.{dec_lt}
use native.Mathlib.Omega.{arith}
use lib.Dec.{eqb, ltb}
use lib.IntN.{pos}
use lib.ListN.{length, get_or, get_or-append, get_or-eq_default}
use lib.Seq.{get_or-append-add}
use Rattle.problem.specs.Range.{outside}
use Rattle.problem.specs.Case.{supply as supplyOf, entry}
use Rattle.problem.proofs.TestsPassed.{Formed}
use Rattle.flow_problem.specs.Network.{Network, arc_count, start, end, ceiling, cost, listed, cells}
use Rattle.flow_problem.specs.inner.Reduce.{rows_of, node, stock, lane_cost, lane_ceiling, want, entry_at, case_of}
use Rattle.flow_problem.specs.inner.Sound.{Sound}
use Rattle.flow_problem.proofs.NodesAndSources.{cells_length, cells_at, rows_length, node_below, node_0, source_v, source_below}
use Rattle.flow_problem.proofs.FlowListing.{or_both}
use Rattle.flow_problem.proofs.SoundNetwork.{Proper}

-- ---- a fact of every cell

module _ {A : Type 0} (P : A → Type 0) (z : A) where
  cells_all : (n : ℕ) (f : ℕ → A) → ((j : ℕ) → j < n → P (f j)) → (l : ℕ) → l < n → P (get_or (cells n f) l z)
  cells_all n f h l q = subst P (sym (cells_at n f z l q)) (h l q)

  rows_all : (m n : ℕ) (f : ℕ → ℕ → A) → ((i j : ℕ) → i < m → j < n → P (f i j)) → (l : ℕ) → l < m * n → P (get_or (rows_of m n f) l z)
  unfolding rows_of
  rows_all zero n f h l q = absurd (omega (arith, zero-mul n))
  rows_all (suc m) n f h l q = elim (dec_lt l n) [
    | yes k ↦
        subst P (sym (get_or-append (cells n (f 0)) (rows_of m n (λ i. f (suc i))) z l (omega (arith, cells_length n (f 0)))))
        (cells_all n (f 0) (λ j k. h 0 j (omega arith) k) l k)
    | no k ↦
        subst P
        (sym (ap (λ (t : ℕ). get_or (cells n (f 0) ++ rows_of m n (λ i. f (suc i))) t z) (let q : l ≡ length (cells n (f 0)) + (l - n) = omega (arith, cells_length n (f 0)) in q)
        ∙ get_or-append-add (cells n (f 0)) (rows_of m n (λ i. f (suc i))) (l - n) z))
        (rows_all m n (λ i. f (suc i)) (λ i j a b. h (suc i) j (omega arith) b) (l - n) (omega (arith, suc-mul m n)))
  ]

chosen : {A : Type 0} (P : A → Type 0) (t : Bool) (a b : A) → P a → P b → P (cond t a b)
chosen P true a b p q = p
chosen P false a b p q = q

-- ---- the case

module _ (g : Network) (k : ℕ) (table : List ℕ) (ok : Proper g) (so : Sound g k) (few_nodes : g.nodes ≤ 32) (few_arcs : arc_count g ≤ 64)
    (small_stock : (i : ℕ) → i < g.nodes → stock g i ≤ 4000) (small_entry : (y : ℕ) → listed table y ≤ 1000000000) where
  w_in : end g k < g.nodes
  w_in = so.ends k so.place

  v_in : start g k < g.nodes
  v_in = so.starts k so.place

  apart : start g k ≢ end g k
  apart = so.apart k so.place

  two : 2 ≤ g.nodes
  two = omega (arith, source_below (end g k) (start g k) g.nodes w_in v_in apart (start g k) v_in, source_v (end g k) (start g k) apart)

  pub first_supply : supplyOf (case_of g k table) 0 ≡ stock g (end g k)
  first_supply = cells_at g.nodes (λ s. stock g (node g k s)) 0 0 (omega (arith, two)) ∙ ap (stock g) (node_0 (end g k) (start g k) apart)

  pub case_formed : Formed (case_of g k table)
  unfolding outside
  case_formed = record {
    two_sources = two;
    few_sources = few_nodes;
    one_terminal = omega (arith, so.place);
    few_terminals = few_arcs;
    costs_long = rows_length g.nodes (arc_count g) (lane_cost g k);
    supplies_long = cells_length g.nodes (λ s. stock g (node g k s));
    demands_long = cells_length (arc_count g) (want g k);
    small_supply = cells_all (λ v. v ≤ 4000) 0 g.nodes (λ s. stock g (node g k s)) (λ s l. small_stock (node g k s) (node_below (end g k) (start g k) g.nodes w_in v_in apart s l));
    small_demand = cells_all (λ v. v ≤ 4000) 0 (arc_count g) (want g k) (λ j l. chosen (λ v. v ≤ 4000) (eqb j k) 0 (ceiling g j) (omega arith) (so.ceilings j l));
    first_run = omega (arith, first_supply);
    second_run = omega arith;
    cost_inside = rows_all (λ z. outside z ≡ false) (pos 0) g.nodes (arc_count g) (lane_cost g k)
        (λ s j h l. chosen (λ z. outside z ≡ false) (eqb (node g k s) (start g j)) (cost g j) (pos 0) (or_both _ _ (ok.costs_low j l) (ok.costs_high j l)) refl);
    ceilings_long = rows_length g.nodes (arc_count g) (lane_ceiling g k);
    ceiling_most = rows_all (λ v. v ≤ 4000) 0 g.nodes (arc_count g) (lane_ceiling g k)
        (λ s j h l. chosen (λ v. v ≤ 4000) (eqb (node g k s) (start g j) || eqb (node g k s) (end g j)) 4000 0 (omega arith) (omega arith));
    table_long = cells_length (suc (stock g (end g k))) (entry_at g k table) ∙ omega (arith, first_supply);
  }

  pub case_entries : (y : ℕ) → entry (case_of g k table) y ≤ 1000000000
  case_entries y = elim (dec_lt y (suc (stock g (end g k)))) [
    | yes l ↦
        cells_all (λ v. v ≤ 1000000000) 0 (suc (stock g (end g k))) (entry_at g k table)
        (λ y l. chosen (λ v. v ≤ 1000000000) (ltb (y + ceiling g k) (stock g (end g k))) 0 _ (omega arith) (small_entry (y + ceiling g k - stock g (end g k)))) y l
    | no l ↦
        let q : entry (case_of g k table) y ≡
        0 = get_or-eq_default (cells (suc (stock g (end g k))) (entry_at g k table)) 0 (omega (arith, cells_length (suc (stock g (end g k))) (entry_at g k table))) in
        omega (arith, q)
  ]
