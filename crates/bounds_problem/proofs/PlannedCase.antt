-- What is known of a case that the planner gave a plan. Of all files here this one alone names tests and laws of the planner. Assumes nothing.
use mathlib.Core.Path.{◌≡◌, sym, ap, ap₂, ◌∙◌}
use mathlib.Core.Option.{Option, none, some}
use Prim.Native.Nat.{ℕ, ◌+◌, ◌-◌, ◌*◌, ◌≤◌}
use native.Mathlib.Omega.{arith}
use lib.IntN.{ℤ, pos, nat_abs, sub_ℕ, ◌+ℤ◌}
use lib.ListN.{length}
use Rattle.problem.specs.Case.{Case, supply, entry, least_split, greatest_split}
use Rattle.problem.specs.Plans.{least_freight_at, total_at, best_split, stops}
use Rattle.problem.specs.Outcome.{Outcome, planned, refusal_of, plan_of, outcome_of}
use Rattle.problem.proofs.TestsPassed.{formed, balanced, has_split_lem, small_entry, accepted}
use Rattle.problem.proofs.RefusalNumbers.{planned_passes}
use Rattle.problem.proofs.Splits.{fitting, in_order, last_split, greatest_most}
use Rattle.transport.proofs.Differences.{sub_add, sub_same, sub_pos, pos_sub}
use Rattle.problem.proofs.RaisedCurve.{raised_at, added, least_above}
use Rattle.problem.proofs.TotalBounds.{few_drums, raised_most}
use Rattle.bounds_problem.specs.Tables.{Split}
use Rattle.bounds_problem.specs.inner.Heights.{height, Moderate}

pub record Ready (c : Case) : Type 0 where
  pub order : least_split c ≤ greatest_split c
  pub last : greatest_split c ≤ supply c 0
  pub limit : supply c 0 ≤ 4000
  pub low_long : length c.table ≡ supply c 0 + 1
  pub entries : (y : ℕ) → Split c y → entry c y ≤ 1000000000
  pub freights : (y : ℕ) → Split c y → Moderate (least_freight_at c y)

-- ---- what the tests leave

-- a difference of two naturals that lies in the range
moderate : (z : ℤ) (n k : ℕ) → z ≡ sub_ℕ n k → k ≤ 128000000000 → n ≤ 2 * k → Moderate z
unfolding height
moderate z n k e h l =
    let m = n + (128000000000 - k) in
    let top : z +ℤ pos 128000000000 ≡ pos m =
    ap₂ (λ (a b : ℤ). a +ℤ b) e (pos_sub 128000000000) ∙ sub_add n k 128000000000 0 ∙ sub_pos (n + 128000000000) (k + 0) m (omega arith) in
    let is : nat_abs (z +ℤ pos 128000000000) ≡ m = ap nat_abs top in
    record {
      above = record { is = e ∙ sub_same n k (nat_abs (z +ℤ pos 128000000000)) 128000000000 (omega arith) };
      small = omega arith;
    }

pub ready : (c : Case) (s : ℕ) (t f : ℤ) (k : ℕ) → outcome_of c ≡ planned s t f k → Ready c
unfolding added
ready c s t f k e =
    let a = accepted c (planned_passes c s t f k e) in
    let form = formed c a.form in
    let fit = fitting c (balanced c form a.t7 a.t8) (has_split_lem c a.t27) in
    let l = last_split form fit in
    let few = few_drums form fit in
    record {
      order = in_order form fit;
      last = greatest_most c;
      limit = form.small_supply 0 (omega (arith, form.two_sources));
      low_long = form.table_long;
      entries = λ y q. small_entry c a.t9 y q.from (omega (arith, q.to));
      freights = λ y q. moderate (least_freight_at c y) (raised_at c y) (added c) (least_above form fit y q.from q.to).is (omega arith)
          (omega (arith, raised_most form fit y q.from q.to));
    }

-- the count that the planner tells is that of its stops
pub count_is : (c : Case) (s : ℕ) (t f : ℤ) (k : ℕ) → outcome_of c ≡ planned s t f k → k ≡ length (stops c)
unfolding outcome_of plan_of
count_is c s t f k e =
    let n : refusal_of c ≡ none = planned_passes c s t f k e in
    let q : outcome_of c ≡ plan_of c = ap (λ (o : Option Outcome). elim o [ some r ↦ r | none ↦ plan_of c ]) n in
    let z : planned (best_split c) (total_at c (best_split c)) (least_freight_at c (best_split c)) (length (stops c)) ≡ planned s t f k = sym q ∙ e in
    cc
