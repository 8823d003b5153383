-- `work_case::plan_mark` meets its contract. By the planner's promise. Assumes nothing.
use mathlib.Core.Path.{sym}
use Rattle.work_store.proofs.OpenStore.{opened}
use Rattle.work_plans.proofs.PlanLaws.{mark_closed, mark_work}
use Rattle.std.proofs.lemmas.Result.{err_from_is_err_and}
use Rattle.work_store.proofs.OpenStore.{only_room}
use Rattle.work_case.proofs.plan_mark.Goals as goal

pub plan_set-requires : goal.plan_set-requires
plan_set-requires c = opened _ _ _ (sym c.in_ok-layout.ensures)

pub returns-in_err-layout : goal.returns-in_err-layout
returns-in_err-layout c =
    let r = err_from_is_err_and c.from_residual.result c.from_residual.ensures.1 in
    let e = only_room c.args.store.now _ (sym c.in_err-layout.ensures) in
    rw (r.1, r.2, e.0) (mark_closed 0 0 _ _ _ _ _ _ e.1)

pub returns : goal.returns
returns c =
    mark_work _ _ _ _ _ _ _ _ _ _ (sym c.in_ok-layout.ensures) c.plan_set.ensures
