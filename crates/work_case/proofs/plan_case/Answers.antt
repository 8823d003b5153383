-- `work_case::plan_case` meets its contract. By the planner's promise. Assumes nothing.
use mathlib.Core.Path.{sym}
use Rattle.work_store.proofs.OpenStore.{opened}
use Rattle.work_plans.proofs.PlanLaws.{open_front, plan_closed, plan_work}
use Rattle.std.proofs.lemmas.Result.{err_from_is_err_and}
use Rattle.work_store.proofs.OpenStore.{only_room}
use Rattle.work_case.proofs.plan_case.Goals as goal

pub plan_open-requires : goal.plan_open-requires
plan_open-requires c = open_front _ _ _ (opened _ _ _ (sym c.in_ok-layout.ensures))

pub returns-in_err-layout : goal.returns-in_err-layout
returns-in_err-layout c =
    let r = err_from_is_err_and c.from_residual.result c.from_residual.ensures.1 in
    let e = only_room c.args.store.now _ (sym c.in_err-layout.ensures) in
    rw (r.1, r.2, e.0) (plan_closed _ _ _ _ _ e.1)

pub returns : goal.returns
returns c =
    plan_work _ _ _ _ _ _ _ _ _ (sym c.in_ok-layout.ensures) c.plan_open.ensures
