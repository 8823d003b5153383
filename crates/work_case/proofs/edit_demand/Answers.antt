-- `work_case::edit_demand` meets its contract. Assumes nothing.
use mathlib.Core.Path.{sym}
use Rattle.work_store.proofs.OpenStore.{opened}
use Rattle.work_store.proofs.CallPromise.{by_closed, by_work}
use Rattle.work_store.proofs.EditLaws.{demand_faithful}
use Rattle.std.proofs.lemmas.Result.{err_from_is_err_and}
use Rattle.work_store.proofs.OpenStore.{only_room}
use Rattle.work_case.proofs.edit_demand.Goals as goal

pub put_demand-requires : goal.put_demand-requires
put_demand-requires c = opened _ _ _ (sym c.in_ok-layout.ensures)

pub returns-in_err-layout : goal.returns-in_err-layout
returns-in_err-layout c =
    let r = err_from_is_err_and c.from_residual.result c.from_residual.ensures.1 in
    let e = only_room c.args.store.now _ (sym c.in_err-layout.ensures) in
    rw (r.1, r.2, e.0) (by_closed _ _ e.1)

pub returns : goal.returns
returns c =
    by_work _ (demand_faithful _ _) _ _ _ _ _ (sym c.in_ok-layout.ensures)
    c.put_demand.ensures
