-- `validation::tests::form_test` meets its contract. Assumes nothing.
use mathlib.Core.Path.{sym}
use native.Mathlib.Omega.{arith}
use Rattle.std.proofs.lemmas.Result.{err_from_is_err_and}
use Rattle.problem.proofs.TestParts.{outside_within, amounts_none}
use Rattle.validation.proofs.FormTests.{lanes, in_limits, by_size, by_lengths, by_amounts, by_runs, by_cost, by_ceilings, by_table, by_none}
use Rattle.validation.proofs.tests.form_test.Goals.{Start}
use Rattle.validation.proofs.tests.form_test.Goals as goal

pub returns-in_err-checked : goal.returns-in_err-checked
returns-in_err-checked c =
    let r = err_from_is_err_and c.from_residual.result c.from_residual.ensures.1 in
    λ p s f. rw (r.1, r.2) (sym (by_size _ _ (sym c.in_err-checked.ensures)))

pub overflow_mul-lanes : goal.overflow_mul-lanes
overflow_mul-lanes c = omega (arith, lanes (in_limits _ _ _ (sym c.in_ok-checked.ensures)))

pub returns-then-costs-lanes : goal.returns-then-costs-lanes
returns-then-costs-lanes c =
    λ p s f. rw (c.at.ensures.cause, c.at.ensures.place) (sym (by_lengths _ (in_limits _ _ _ (sym c.in_ok-checked.ensures)) c.then-costs-lanes.either))

pub returns-in_err-amounts_test : goal.returns-in_err-amounts_test
returns-in_err-amounts_test c =
    let e = c.from_residual-in_err-amounts_test in
    let r = err_from_is_err_and e.result e.ensures.1 in
    λ p s f. rw (r.1, r.2) (sym (by_amounts _ (in_limits _ _ _ (sym c.in_ok-checked.ensures)) c.if-costs-lanes.false c.if-supplies-m.false c.if-demands-n.false _
    (sym c.in_err-amounts_test.ensures)))

pub runs_test-requires : goal.runs_test-requires
runs_test-requires c = omega (arith, (in_limits _ _ _ (sym c.in_ok-checked.ensures)).two, c.if-supplies-m.false)

pub returns-in_err-runs_test : goal.returns-in_err-runs_test
returns-in_err-runs_test c =
    let e = c.from_residual-in_err-runs_test in
    let r = err_from_is_err_and e.result e.ensures.1 in
    λ p s f. rw (r.1, r.2) (sym (by_runs _ (in_limits _ _ _ (sym c.in_ok-checked.ensures)) c.if-costs-lanes.false c.if-supplies-m.false c.if-demands-n.false
    (sym c.in_ok-amounts_test.ensures) _ (sym c.in_err-runs_test.ensures)))

pub overflow_add-k : goal.overflow_add-k
overflow_add-k c = let h = outside_within c.args.case.now.costs.now _ (sym c.in-Some.ensures) in omega arith

pub returns-in-Some : goal.returns-in-Some
returns-in-Some c =
    let e = c.at-in-Some.ensures in
    λ p s f. rw (e.cause, e.place) (sym (by_cost _ (in_limits _ _ _ (sym c.in_ok-checked.ensures)) c.if-costs-lanes.false c.if-supplies-m.false c.if-demands-n.false
    (sym c.in_ok-amounts_test.ensures) (sym c.in_ok-runs_test.ensures) _ (sym c.in-Some.ensures)))

pub returns-in_err-ceilings_test : goal.returns-in_err-ceilings_test
returns-in_err-ceilings_test c =
    let e = c.from_residual-in_err-ceilings_test in
    let r = err_from_is_err_and e.result e.ensures.1 in
    λ p s f. rw (r.1, r.2) (sym (by_ceilings _ (in_limits _ _ _ (sym c.in_ok-checked.ensures)) c.if-costs-lanes.false c.if-supplies-m.false c.if-demands-n.false
    (sym c.in_ok-amounts_test.ensures) (sym c.in_ok-runs_test.ensures) (sym c.in_default.ensures) _ (sym c.in_err-ceilings_test.ensures)))

pub bounds-supplies-0 : goal.bounds-supplies-0
bounds-supplies-0 c = omega (arith, (in_limits _ _ _ (sym c.in_ok-checked.ensures)).two, c.if-supplies-m.false)

pub overflow_add-supplies : goal.overflow_add-supplies
overflow_add-supplies c =
    omega (arith, (amounts_none _ _ (sym c.in_ok-amounts_test.ensures)).0 0 (omega (arith, (in_limits _ _ _ (sym c.in_ok-checked.ensures)).two, c.if-supplies-m.false)))

pub returns-then-table-supplies : goal.returns-then-table-supplies
returns-then-table-supplies c =
    let e = c.at-then-table-supplies.ensures in
    λ p s f. rw (e.cause, e.place) (sym (by_table _ (in_limits _ _ _ (sym c.in_ok-checked.ensures)) c.if-costs-lanes.false c.if-supplies-m.false c.if-demands-n.false
    (sym c.in_ok-amounts_test.ensures) (sym c.in_ok-runs_test.ensures) (sym c.in_default.ensures) (sym c.in_ok-ceilings_test.ensures) c.if-table-supplies.true))

pub returns : goal.returns
returns c =
    λ p s f. sym (by_none _ (in_limits _ _ _ (sym c.in_ok-checked.ensures)) c.if-costs-lanes.false c.if-supplies-m.false c.if-demands-n.false
    (sym c.in_ok-amounts_test.ensures) (sym c.in_ok-runs_test.ensures) (sym c.in_default.ensures) (sym c.in_ok-ceilings_test.ensures) c.if-table-supplies.false)
