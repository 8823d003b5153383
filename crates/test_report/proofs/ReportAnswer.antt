-- The planner accepts the report's example with the square-root rates, and gives split 180 and total 2,161. Assumes nothing.
use mathlib.Core.Path.{◌≡◌, refl, sym, ap, ◌∙◌}
use mathlib.Core.Option.{none}
use mathlib.Core.Bool.{true, not}
use Prim.Native.Nat.{ℕ, ◌+◌, ◌≤◌}
use native.Mathlib.Omega.{arith}
use lib.IntN.{ℤ, pos}
use lib.ListN.{length}
use borrow.Author.Tests.{le-ltb}
use Rattle.transport.specs.Sum.{sum}
use Rattle.problem.specs.Range.{outside}
use Rattle.problem.specs.Case.{all_demand, depot_stock, made, entry, least_split, steps, has_split}
use Rattle.problem.specs.Plans.{least_freight_at, total_at, best_split, stops}
use Rattle.problem.specs.Outcome.{planned, refuse_if, refuse_at, first_from, first_over, ◌or_else◌, form_refusal, refusal_of, plan_of, outcome_of, test1, test2}
use Rattle.problem.specs.Outcome.{test3, test4, test23, test5, test26, test6, test7, test8, test27, test9, test11}
use Rattle.problem.proofs.FirstFailing.{first_none}
use Rattle.problem.proofs.TestParts.{unmet, no_place}
use Rattle.problem.proofs.TestsPassed.{Formed, formed, balanced, second_decides}
use Rattle.problem.proofs.Splits.{Fitting, fitting, fits_split, split_of, greatest_most, last_split}
use Rattle.problem.proofs.Promise.{from9, gets_plan}
use Rattle.problem.proofs.Promise as promise
use Rattle.ratetable.specs.Rate.{rate, rates_from}
use Rattle.ratetable.proofs.Squares.{rate_is, self_square}
use Rattle.ratetable.proofs.Filling.{from_at}
use Rattle.test_report.specs.Report.{report}
use Rattle.test_report.proofs.Example.{plan180, cheapest, freight_180}
use Rattle.test_report.proofs.Unique.{same_answer}

form : form_refusal report ≡ none
unfolding report form_refusal test1 test2 test3 test4 test23 test5 test26 test6 refuse_if refuse_at first_from first_over ◌or_else◌ outside rates_from
form = refl

t7 : test7 report ≡ none
unfolding report test7 refuse_if all_demand depot_stock sum
t7 = refl

t8 : test8 report ≡ none
unfolding report test8 refuse_if made all_demand depot_stock sum
t8 = refl

some_split : has_split report ≡ true
unfolding report
some_split = fits_split report _ (split_of report plan180 (omega arith) cheapest.plan).one

t27 : test27 report ≡ none
unfolding test27
t27 = unmet 27 (not (has_split report)) (ap not some_split)

is_formed : Formed report
is_formed = formed report form

is_fitting : Fitting report
is_fitting = fitting report (balanced report is_formed t7 t8) some_split

-- no split is above 200
last_is : least_split report + steps report ≤ 200
unfolding report
last_is = omega (arith, last_split is_formed is_fitting, greatest_most report)

-- each entry in use is a rate, and at most 10,000 × 200
t9 : test9 report ≡ none
unfolding report test9
t9 =
    no_place 9 _ (first_none _ (least_split report) (steps report + 1) (λ y h l. le-ltb 1000000000 (entry report y)
    (let e : entry report y ≡ rate (0 + y) = from_at 0 201 y (omega (arith, last_is)) in
    let r = (rate_is (0 + y)).under in
    let s : rate (0 + y) ≤ 2000000 = omega (arith, last_is, self_square (rate (0 + y))) in
    omega arith)))

t11 : test11 report ≡ none
unfolding report test11 refuse_if
t11 = rw (le-ltb 201 (steps report + 1) (omega (arith, last_is))) refl

accepted : refusal_of report ≡ none
accepted = from9 report form t7 t8 t27 ∙ second_decides (test9 report) _ t9 ∙ t11

planned_is : outcome_of report ≡ plan_of report
unfolding outcome_of
planned_is = rw (accepted, outcome_of) refl

-- split 180, total 2,161, freight 820
pub given : outcome_of report ≡ planned 180 (pos 2161) (pos 820) (length (stops report))
unfolding plan_of
given =
    let g = gets_plan report accepted in
    let best = promise.cheapest report g.0 accepted g.1 g.2 in
    let same = same_answer best cheapest in
    let split : best_split report ≡ 180 = same.0 in
    let total : total_at report (best_split report) ≡ pos 2161 = same.1 in
    let freight : least_freight_at report (best_split report) ≡ pos 820 = sym g.2 ∙ freight_180 g.0 best.plan (best.own_split ∙ split) (best.own_total ∙ total) in
    planned_is ∙ step split total freight
  where
    step : {s s' k : ℕ} {t t' f f' : ℤ} → s ≡ s' → t ≡ t' → f ≡ f' → planned s t f k ≡ planned s' t' f' k
    step a b c = cc
