-- What a test that refuses nothing says of the case, and in which order the tests decide. Assumes nothing.
use mathlib.Core.Path.{◌≡◌, refl, sym, ap, ◌∙◌}
use mathlib.Core.Logic.{◌⊎◌, inl, inr}
use mathlib.Core.Bool.{Bool, true, false, not, cond, ◌||◌}
use mathlib.Core.Option.{Option, none, some}
use mathlib.Core.List.{List, ◌++◌}
use Prim.Native.Nat.{ℕ, ◌+◌, ◌-◌, ◌*◌, ◌≤◌, ◌<◌}
use native.Mathlib.Omega.{arith}
use lib.Dec.{eqb, ltb}
use lib.IntN.{ℤ, pos}
use lib.ListN.{length, get_or, get_or-append}
use Rattle.problem.specs.Range.{outside}
use lib.Seq.{get_or-append-add}
use borrow.Author.Tests.{eqb-true, ltb-false, le-ltb, not-false}
use Rattle.problem.specs.Case.{Case, supply, demand, entry, all_demand, depot_stock, made, has_split, least_split, steps}
use Rattle.problem.specs.Outcome.{Outcome, refused, refuse_if, refuse_at, first_from, first_over, ◌or_else◌, form_refusal, refusal_of, test1, test2}
use Rattle.problem.specs.Outcome.{test3, test4, test23, test5, test26, test6, test7, test8, test27, test9, test11}
use Rattle.problem.proofs.FirstFailing.{none_passes}

pub some≢none : (r : Outcome) → ◌≡◌ {A = Option Outcome} (some r) none → ⊥
some≢none r e = let z : ◌≡◌ {A = ℕ} 0 1 = cc in omega arith

-- ---- the order

pub first_passes : (a b : Option Outcome) → (a or_else b) ≡ none → a ≡ none
unfolding ◌or_else◌
first_passes none b e = refl
first_passes (some r) b e = e

pub second_decides : (a b : Option Outcome) → a ≡ none → (a or_else b) ≡ b
unfolding ◌or_else◌
second_decides none b e = refl
second_decides (some r) b e = absurd (some≢none r e)

pub first_decides : (a b : Option Outcome) (r : Outcome) → a ≡ some r → (a or_else b) ≡ some r
unfolding ◌or_else◌
first_decides none b r e = absurd (some≢none r (sym e))
first_decides (some q) b r e = e

pub second_passes : (a b : Option Outcome) → (a or_else b) ≡ none → b ≡ none
second_passes a b e = sym (second_decides a b (first_passes a b e)) ∙ e

-- the second looks at a case that the first passes
pub under_first : (a b b' : Option Outcome) → (a ≡ none → b ≡ b') → (a or_else b) ≡ (a or_else b')
unfolding ◌or_else◌
under_first none b b' h = h refl
under_first (some r) b b' h = refl

-- ---- one test

pub refuse_if_none : (k : ℕ) (t : Bool) → refuse_if k t ≡ none → t ≡ false
unfolding refuse_if
refuse_if_none k true e = absurd (some≢none (refused k 0) e)
refuse_if_none k false e = refl

-- a test with place 0 passes or refuses
pub refuse_if_cases : (k : ℕ) (t : Bool) → (refuse_if k t ≡ none) ⊎ (refuse_if k t ≡ some (refused k 0))
unfolding refuse_if
refuse_if_cases k true = inr refl
refuse_if_cases k false = inl refl

refuse_at_none : (k : ℕ) (o : Option ℕ) → refuse_at k o ≡ none → o ≡ none
unfolding refuse_at
refuse_at_none k none e = refl
refuse_at_none k (some p) e = absurd (some≢none (refused k p) e)

pub either_first : (a b : Bool) → (a || b) ≡ false → a ≡ false
either_first true b e = e
either_first false b e = refl

pub either_second : (a b : Bool) → (a || b) ≡ false → b ≡ false
either_second true b e = let z : ◌≡◌ {A = ℕ} 0 1 = cc in absurd (omega arith)
either_second false b e = e

-- ---- the tests before the balance

-- no number of a list is above the limit, places counted from 1
under : (limit : ℕ) (l : List ℕ) (k : ℕ) → first_from (λ p. ltb limit (get_or l (p - 1) 0)) 1 k ≡ none → (i : ℕ) → i < k → get_or l i 0 ≤ limit
under limit l k e i h =
    let q = none_passes (λ p. ltb limit (get_or l (p - 1) 0)) 1 k e (i + 1) (omega arith) (omega arith) in
    omega (arith, ltb-false limit (get_or l (i + 1 - 1) 0) q, ap (λ (p : ℕ). get_or l p 0) (same i))
  where
    same : (i : ℕ) → i + 1 - 1 ≡ i
    same i = omega arith

-- no unit cost is out of range
within : (l : List ℤ) (k : ℕ) → first_from (λ p. outside (get_or l (p - 1) (pos 0))) 1 k ≡ none → (i : ℕ) → i < k → outside (get_or l i (pos 0)) ≡ false
within l k e i h =
    ap (λ (p : ℕ). outside (get_or l p (pos 0))) (let z : i ≡ i + 1 - 1 = omega arith in z)
    ∙ none_passes (λ p. outside (get_or l (p - 1) (pos 0))) 1 k e (i + 1) (omega arith) (omega arith)

-- no run is above its supply
pub over_none : (r1 r2 a1 a2 : ℕ) → first_over r1 r2 a1 a2 ≡ none → (r1 ≤ a1) × (r2 ≤ a2)
unfolding first_over
over_none r1 r2 a1 a2 e = go (ltb a1 r1) refl (ltb a2 r2) refl e
  where
    go : (a : Bool) → ltb a1 r1 ≡ a → (b : Bool) → ltb a2 r2 ≡ b → (let o : Option ℕ = cond a (some 1) (cond b (some 2) none) in o) ≡ none
        → (r1 ≤ a1) × (r2 ≤ a2)
    go true p b q e = let z : ◌≡◌ {A = ℕ} 0 1 = cc in absurd (omega arith)
    go false p true q e = let z : ◌≡◌ {A = ℕ} 0 1 = cc in absurd (omega arith)
    go false p false q e = (ltb-false a1 r1 p, ltb-false a2 r2 q)

-- what the tests before the balance leave
pub record Formed (c : Case) : Type 0 where
  pub two_sources : 2 ≤ c.m
  pub few_sources : c.m ≤ 32
  pub one_terminal : 1 ≤ c.n
  pub few_terminals : c.n ≤ 64
  pub costs_long : length c.costs ≡ c.m * c.n
  pub supplies_long : length c.supplies ≡ c.m
  pub demands_long : length c.demands ≡ c.n
  pub small_supply : (i : ℕ) → i < c.m → supply c i ≤ 4000
  pub small_demand : (j : ℕ) → j < c.n → demand c j ≤ 4000
  pub first_run : c.run1 ≤ supply c 0
  pub second_run : c.run2 ≤ supply c 1
  pub cost_inside : (k : ℕ) → k < c.m * c.n → outside (get_or c.costs k (pos 0)) ≡ false
  pub ceilings_long : length c.ceilings ≡ c.m * c.n
  pub ceiling_most : (k : ℕ) → k < c.m * c.n → get_or c.ceilings k 0 ≤ 4000
  pub table_long : length c.table ≡ supply c 0 + 1

record Passes6 (c : Case) : Type 0 where
  t1 : test1 c ≡ none
  t2 : test2 c ≡ none
  t3 : test3 c ≡ none
  t4 : test4 c ≡ none
  t23 : test23 c ≡ none
  t5 : test5 c ≡ none
  t26 : test26 c ≡ none
  t6 : test6 c ≡ none

passes6 : (c : Case) → form_refusal c ≡ none → Passes6 c
unfolding form_refusal
passes6 c e =
    let e2 = second_passes (test1 c) _ e in
    let e3 = second_passes (test2 c) _ e2 in
    let e4 = second_passes (test3 c) _ e3 in
    let e23 = second_passes (test4 c) _ e4 in
    let e5 = second_passes (test23 c) _ e23 in
    let e26 = second_passes (test5 c) _ e5 in
    record {
      t1 = first_passes (test1 c) _ e;
      t2 = first_passes (test2 c) _ e2;
      t3 = first_passes (test3 c) _ e3;
      t4 = first_passes (test4 c) _ e4;
      t23 = first_passes (test23 c) _ e23;
      t5 = first_passes (test5 c) _ e5;
      t26 = first_passes (test26 c) _ e26;
      t6 = second_passes (test26 c) _ e26;
    }

pub formed : (c : Case) → form_refusal c ≡ none → Formed c
unfolding test1 test2 test3 test4 test23 test5 test26 test6
formed c e =
    let t = passes6 c e in
    let b1 = refuse_if_none 1 (ltb c.m 2 || ltb 32 c.m) t.t1 in
    let b2 = refuse_if_none 2 (ltb c.n 1 || ltb 64 c.n) t.t2 in
    let nc = not (eqb (length c.costs) (c.m * c.n)) in
    let ns = not (eqb (length c.supplies) c.m) in
    let nd = not (eqb (length c.demands) c.n) in
    let b3 = refuse_if_none 3 (nc || (ns || nd)) t.t3 in
    let b4 = under 4000 (c.supplies ++ c.demands) (c.m + c.n) (refuse_at_none 4 _ t.t4) in
    let b23 = over_none c.run1 c.run2 (supply c 0) (supply c 1) (refuse_at_none 23 _ t.t23) in
    let b26 = refuse_if_none 26 (not (eqb (length c.ceilings) (c.m * c.n))) (first_passes _ _ t.t26) in
    let ls = eqb-true (length c.supplies) c.m (not-false _ (either_first ns nd (either_second nc (ns || nd) b3))) in
    record {
      two_sources = ltb-false c.m 2 (either_first (ltb c.m 2) (ltb 32 c.m) b1);
      few_sources = ltb-false 32 c.m (either_second (ltb c.m 2) (ltb 32 c.m) b1);
      one_terminal = ltb-false c.n 1 (either_first (ltb c.n 1) (ltb 64 c.n) b2);
      few_terminals = ltb-false 64 c.n (either_second (ltb c.n 1) (ltb 64 c.n) b2);
      costs_long = eqb-true (length c.costs) (c.m * c.n) (not-false _ (either_first nc (ns || nd) b3));
      supplies_long = ls;
      demands_long = eqb-true (length c.demands) c.n (not-false _ (either_second ns nd (either_second nc (ns || nd) b3)));
      small_supply = λ i h. omega (arith, b4 i (omega arith), get_or-append c.supplies c.demands 0 i (omega arith));
      small_demand = λ j h.
          omega (
            arith,
            b4 (c.m + j) (omega arith),
            get_or-append-add c.supplies c.demands j 0,
            ap (λ (a : ℕ). get_or (c.supplies ++ c.demands) (a + j) 0) ls,
          );
      first_run = b23.0;
      second_run = b23.1;
      cost_inside = within c.costs (c.m * c.n) (refuse_at_none 5 _ t.t5);
      ceilings_long = eqb-true (length c.ceilings) (c.m * c.n) (not-false _ b26);
      ceiling_most = under 4000 c.ceilings (c.m * c.n) (refuse_at_none 26 _ (second_passes _ _ t.t26));
      table_long = eqb-true (length c.table) (supply c 0 + 1) (not-false _ (refuse_if_none 6 (not (eqb (length c.table) (supply c 0 + 1))) t.t6));
    }

-- ---- tests 7 to 11

-- what tests 23, 7 and 8 leave
pub record Balanced (c : Case) : Type 0 where
  pub first_run : c.run1 ≤ supply c 0
  pub second_run : c.run2 ≤ supply c 1
  pub stock : depot_stock c + c.run1 + c.run2 ≤ all_demand c
  pub reach : made c ≤ supply c 0 + supply c 1

pub balanced : (c : Case) → Formed c → test7 c ≡ none → test8 c ≡ none → Balanced c
unfolding test7 test8
balanced c f e e' = record {
  first_run = f.first_run;
  second_run = f.second_run;
  stock =
      ltb-false (all_demand c) (depot_stock c + c.run1 + c.run2)
      (refuse_if_none 7 (ltb (all_demand c) (depot_stock c + c.run1 + c.run2)) e);
  reach = ltb-false (supply c 0 + supply c 1) (made c) (refuse_if_none 8 (ltb (supply c 0 + supply c 1) (made c)) e');
}

pub balanced_passes : (c : Case) → Balanced c → (test7 c ≡ none) × (test8 c ≡ none)
unfolding test7 test8 refuse_if
balanced_passes c b = (
  ap (λ (t : Bool). refuse_if 7 t) (le-ltb (all_demand c) (depot_stock c + c.run1 + c.run2) b.stock),
  ap (λ (t : Bool). refuse_if 8 t) (le-ltb (supply c 0 + supply c 1) (made c) b.reach),
)

-- what test 27 leaves: there is a split
pub has_split_lem : (c : Case) → test27 c ≡ none → has_split c ≡ true
unfolding test27
has_split_lem c e = not-false _ (refuse_if_none 27 (not (has_split c)) e)

pub split_passes : (c : Case) → has_split c ≡ true → test27 c ≡ none
unfolding test27 refuse_if
split_passes c e = ap (λ (t : Bool). refuse_if 27 (not t)) e

-- what test 9 leaves: no entry at a split is above 1,000,000,000
pub small_entry : (c : Case) → test9 c ≡ none → (y : ℕ) → least_split c ≤ y → y ≤ least_split c + steps c → entry c y ≤ 1000000000
unfolding test9
small_entry c e y a b =
    ltb-false 1000000000 (entry c y) (none_passes (λ y. ltb 1000000000 (entry c y)) (least_split c) (steps c + 1) (refuse_at_none 9 _ e) y a (omega arith))

-- what test 11 leaves: room in the three slices to be written
pub record Roomy (c : Case) : Type 0 where
  pub plan_room : c.m * c.n ≤ c.plan_cells
  pub split_room : steps c + 1 ≤ c.split_cells
  pub freight_room : steps c + 1 ≤ c.freight_cells

pub roomy : (c : Case) → test11 c ≡ none → Roomy c
unfolding test11
roomy c e =
    let p = ltb c.plan_cells (c.m * c.n) in
    let s = ltb c.split_cells (steps c + 1) in
    let f = ltb c.freight_cells (steps c + 1) in
    let b = refuse_if_none 11 (p || (s || f)) e in
    record {
      plan_room = ltb-false c.plan_cells (c.m * c.n) (either_first p (s || f) b);
      split_room = ltb-false c.split_cells (steps c + 1) (either_first s f (either_second p (s || f) b));
      freight_room = ltb-false c.freight_cells (steps c + 1) (either_second s f (either_second p (s || f) b));
    }

-- ---- all tests

pub record Accepted (c : Case) : Type 0 where
  pub form : form_refusal c ≡ none
  pub t7 : test7 c ≡ none
  pub t8 : test8 c ≡ none
  pub t27 : test27 c ≡ none
  pub t9 : test9 c ≡ none
  pub t11 : test11 c ≡ none

pub accepted : (c : Case) → refusal_of c ≡ none → Accepted c
unfolding refusal_of
accepted c e =
    let e7 = second_passes (form_refusal c) _ e in
    let e8 = second_passes (test7 c) _ e7 in
    let e27 = second_passes (test8 c) _ e8 in
    let e9 = second_passes (test27 c) _ e27 in
    record {
      form = first_passes (form_refusal c) _ e;
      t7 = first_passes (test7 c) _ e7;
      t8 = first_passes (test8 c) _ e8;
      t27 = first_passes (test27 c) _ e27;
      t9 = first_passes (test9 c) _ e9;
      t11 = second_passes (test9 c) _ e9;
    }
