-- `work_case::see_limits` meets its contract. Assumes nothing.
use mathlib.Core.Path.{sym}
use Rattle.work_store.proofs.OpenStore.{opened}
use Rattle.work_store.proofs.LimitLaws.{limits_closed, limits_work}
use Rattle.std.proofs.lemmas.Result.{err_from_is_err_and}
use Rattle.work_store.proofs.OpenStore.{only_room}
use Rattle.work_case.proofs.see_limits.Goals as goal

pub show_limits-requires : goal.show_limits-requires
show_limits-requires c = opened _ _ _ (sym c.in_ok-layout.ensures)

pub returns-in_err-layout : goal.returns-in_err-layout
returns-in_err-layout c =
    let r = err_from_is_err_and c.from_residual.result c.from_residual.ensures.1 in
    let e = only_room c.args.store.now _ (sym c.in_err-layout.ensures) in
    rw (r.1, r.2, e.0) (limits_closed _ _ _ e.1)

pub returns : goal.returns
returns c =
    let s = c.show_limits.ensures in
    limits_work _ _ _ (sym c.in_ok-layout.ensures) _ _ _ _ _ s.told s.runs s.ceilings
