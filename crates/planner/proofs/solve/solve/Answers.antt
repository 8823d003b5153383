-- `planner::solve::solve` meets its contract. Assumes nothing.
use mathlib.Core.Path.{◌≡◌, refl, sym, ap, ◌∙◌}
use Prim.Native.Nat.{ℕ, ◌*◌, ◌≤◌}
use native.Mathlib.Omega.{arith}
use native.Mathlib.Nat.{mul-le-mul}
use lib.ListN.{length, length-replicate}
use lib.IntN.{ℤ, sub_ℕ}
use Rattle.std.specs.Prelude.{List}
use Rattle.problem.specs.Case.{Case}
use Rattle.lent_case.specs.Lent.{case_of}
use Rattle.lent_case.specs.declared.Case.{Case as Lent}
use Rattle.problem.proofs.TestsPassed.{Formed, Roomy, roomy}
use Rattle.problem.proofs.RaisedCurve.{added}
use Rattle.problem.proofs.MachineIntegers.{read_back}
use Rattle.planner.proofs.EngineAnswer.{Prepared, prepare, ready, OnSplits, Accepts, form_of, whole_most, runs_most, drums_most, costs_inside}
use Rattle.planner.proofs.EngineAnswer.{narrow_ceilings, narrow_supplies, narrow_demands, demand_sum, refused_27, on_splits, sweep_ready}
use Rattle.planner.proofs.EngineAnswer.{answered, refuses, told, freight_moderate, total_moderate}
use Rattle.planner.proofs.CaseStretches.{case_stretches, climbed, not_climbed}
use Rattle.planner.proofs.LaterTests.{within, by_splits, accepts}
use Rattle.planner.proofs.solve.solve.Goals.{After-sum_of-added, After-wanted-wants, In-Some, In_default-splits_test, Start}
use Rattle.planner.proofs.solve.solve.Goals as goal

-- the lent case, and what its tests left
abbrev the : Lent → List ℕ → List ℕ → List ℤ → Case
the k plan splits freights = case_of k (length plan) (length splits) (length freights)

form : (s : Start) → Formed (the s.args.case.now s.args.plan.now s.args.splits.now s.args.freights.now)
form s = form_of s.requires

-- what was added to each freight
few : (s : Start) → added (the s.args.case.now s.args.plan.now s.args.splits.now s.args.freights.now) ≤ 256000000000
unfolding added
few s = omega (arith, drums_most (form s))

sum_is : (c : After-sum_of-added) → 1000000 * c.sum_of-added.result ≡ added (the c.args.case.now c.args.plan.now c.args.splits.now c.args.freights.now)
unfolding added
sum_is c = ap (λ (v : ℕ). 1000000 * v) (c.sum_of-added.ensures ∙ demand_sum (form_of c.requires))

-- the working arrays are those of the case
prepared : (c : After-wanted-wants) →
    Prepared (the c.args.case.now c.args.plan.now c.args.splits.now c.args.freights.now) c.raise_rows.new.to c.copy_rows.new.to c.supplied-amounts.result c.wanted-wants.result
prepared c =
    prepare c.requires c.raise_rows.ensures.0 c.copy_rows.ensures.0 c.supplied-amounts.ensures c.wanted-wants.ensures

-- past test 27, and past 9 and 11
on : (c : In-Some) →
    OnSplits (the c.args.case.now c.args.plan.now c.args.splits.now c.args.freights.now) c.in-Some.range.lo c.in-Some.range.hi c.args.made
on c =
    on_splits c.requires (prepare c.requires c.raise_rows.ensures.0 c.copy_rows.ensures.0 c.supplied-amounts.ensures c.wanted-wants.ensures) c.begin-started.ensures _ c.in-Some.is

passed : (c : In_default-splits_test) →
    Accepts (the c.args.case.now c.args.plan.now c.args.splits.now c.args.freights.now) c.in-Some.range.lo c.in-Some.range.hi c.args.made
passed c = accepts (on_splits c.requires (prepare c.requires c.raise_rows.ensures.0 c.copy_rows.ensures.0 c.supplied-amounts.ensures c.wanted-wants.ensures) c.begin-started.ensures _ c.in-Some.is) (sym c.in_default-splits_test.ensures)

room : (c : In_default-splits_test) →
    Roomy (the c.args.case.now c.args.plan.now c.args.splits.now c.args.freights.now)
room c =
    roomy (the c.args.case.now c.args.plan.now c.args.splits.now c.args.freights.now) (passed c).t11

pub raise_rows-requires : goal.raise_rows-requires
raise_rows-requires c =
    let f = form (goal.at.raise_rows-requires c).Start in (f.few_sources, f.few_terminals, f.costs_long, length-replicate {A = ℕ} 2048 0, costs_inside f)

pub copy_rows-requires : goal.copy_rows-requires
copy_rows-requires c =
    let f = form (goal.at.copy_rows-requires c).Start in (f.few_sources, f.few_terminals, f.ceilings_long, length-replicate {A = ℕ} 2048 0, narrow_ceilings f)

pub supplied-amounts-requires : goal.supplied-amounts-requires
supplied-amounts-requires c = let f = form (goal.at.supplied-amounts-requires c).Start in (omega (arith, f.supplies_long, f.few_sources), narrow_supplies f)

pub wanted-wants-requires : goal.wanted-wants-requires
wanted-wants-requires c = let f = form (goal.at.wanted-wants-requires c).Start in (omega (arith, f.demands_long, f.few_terminals), narrow_demands f)

pub sum_of-added-requires : goal.sum_of-added-requires
sum_of-added-requires c =
    let f = form (goal.at.sum_of-added-requires c).Start in record { few = omega (arith, f.demands_long, f.few_terminals); small = λ k h. f.small_demand k (omega (arith, f.demands_long)) }

pub overflow_mul-added : goal.overflow_mul-added
overflow_mul-added c = omega (arith, few (goal.at.overflow_mul-added c).Start, sum_is (goal.at.overflow_mul-added c).After-sum_of-added)

pub overflow_cast-all : goal.overflow_cast-all
overflow_cast-all c = omega (arith, whole_most c.requires)

pub overflow_cast-case : goal.overflow_cast-case
overflow_cast-case c = omega (arith, runs_most c.requires)

pub overflow_cast-case-2 : goal.overflow_cast-case-2
overflow_cast-case-2 c = omega (arith, runs_most c.requires)

pub begin-started-requires : goal.begin-started-requires
begin-started-requires c =
    ready c.requires (prepared (goal.at.begin-started-requires c).After-wanted-wants)

pub returns-in_default : goal.returns-in_default
returns-in_default c = record { answered = rw (c.at.ensures.cause, c.at.ensures.place) (refuses _ _ _ _ (refused_27 c.requires (prepared (goal.at.returns-in_default c).After-wanted-wants) c.begin-started.ensures c.in_default.is)); climbed = not_climbed _ _ _ }

pub overflow_mul-m : goal.overflow_mul-m
overflow_mul-m c =
    let f = form (goal.at.overflow_mul-m c).Start in omega (arith, mul-le-mul f.few_sources f.few_terminals)

pub splits_test-requires : goal.splits_test-requires
splits_test-requires c = within (on (goal.at.splits_test-requires c).In-Some)

pub returns-in-Err : goal.returns-in-Err
returns-in-Err c = record { answered = refuses _ _ _ _ (by_splits (on (goal.at.returns-in-Err c).In-Some) _ (sym c.in-Err.ensures)); climbed = not_climbed _ _ _ }

pub sweep-best-requires : goal.sweep-best-requires
sweep-best-requires c = record { sweep_start = record { made = _; amounts = _; begun = c.begin-started.ensures.begun _ c.in-Some.is }; sweep_ready = sweep_ready (passed (goal.at.sweep-best-requires c).In_default-splits_test) (prepared (goal.at.sweep-best-requires c).After-wanted-wants) _ _ _ (omega (arith, few (goal.at.sweep-best-requires c).Start, sum_is (goal.at.sweep-best-requires c).After-sum_of-added)) refl refl }

pub gather_rows-requires : goal.gather_rows-requires
gather_rows-requires c =
    let f = form (goal.at.gather_rows-requires c).Start in (f.few_sources, f.few_terminals, (room (goal.at.gather_rows-requires c).In_default-splits_test).plan_room)

pub lowered-total-requires : goal.lowered-total-requires
lowered-total-requires c = (
  total_moderate (passed (goal.at.lowered-total-requires c).In_default-splits_test) (prepared (goal.at.lowered-total-requires c).After-wanted-wants) (c.sweep-best.ensures _ _ (c.begin-started.ensures.begun _ c.in-Some.is)),
  omega (arith, few (goal.at.lowered-total-requires c).Start, sum_is (goal.at.lowered-total-requires c).After-sum_of-added),
)

pub lowered-freight-requires : goal.lowered-freight-requires
lowered-freight-requires c = (
  freight_moderate (passed (goal.at.lowered-freight-requires c).In_default-splits_test) (prepared (goal.at.lowered-freight-requires c).After-wanted-wants) (c.sweep-best.ensures _ _ (c.begin-started.ensures.begun _ c.in-Some.is)),
  omega (arith, few (goal.at.lowered-freight-requires c).Start, sum_is (goal.at.lowered-freight-requires c).After-sum_of-added),
)

pub returns : goal.returns
returns c =
    let w = c.sweep-best in
    let g = c.gather_rows.ensures in
    let e = sum_is (goal.at.returns c).After-sum_of-added in
    let o = w.ensures _ _ (c.begin-started.ensures.begun _ c.in-Some.is) in
    let ok = passed (goal.at.returns c).In_default-splits_test in
    let arrays = prepared (goal.at.returns c).After-wanted-wants in record {
      answered = told
          (read_back c.lowered-total.result c.lowered-total.type_inv ∙ c.lowered-total.ensures ∙ ap (λ (v : ℕ). sub_ℕ w.result.total v) e)
          (read_back c.lowered-freight.result c.lowered-freight.type_inv ∙ c.lowered-freight.ensures ∙ ap (λ (v : ℕ). sub_ℕ w.result.freight v) e)
          (answered ok arrays o _ _ g.0 g.1 g.2 refl e);
      climbed = climbed _ (case_stretches ok arrays o);
    }
