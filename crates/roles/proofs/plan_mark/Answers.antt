-- `roles::plan_mark` meets its contract. Assumes nothing.
use mathlib.Core.Path.{refl}
use mathlib.Core.Bool.{true, false}
use Rattle.work_store.specs.Store.{held_in}
use Rattle.std.proofs.lemmas.Result.{err_from_is_err_and}
use Rattle.roletable.specs.Deeds.{plan, column, first}
use Rattle.roletable.proofs.RolePromise.{let-in, kept_out, mark_call, mark_barred}
use Rattle.roles.proofs.plan_mark.Goals as goal

pub returns : goal.returns
unfolding column first
returns c =
    let p = c.args in
    mark_call _ (held_in p.store.now) _ _ _ p.k _ _ _ (let-in _ plan true c.in_ok-ask_plan.ensures refl refl) c.plan_mark.ensures

pub returns-in_err-ask_plan : goal.returns-in_err-ask_plan
unfolding column first
returns-in_err-ask_plan c =
    let r = err_from_is_err_and c.from_residual.result c.from_residual.ensures.1 in
    let e = c.in_err-ask_plan.ensures in
    let p = c.args in
    rw (r.1, r.2, e.0) (mark_barred _ (held_in p.store.now) _ _ _ p.k _ (kept_out _ plan false e.1 refl))
