-- `roles::plan_case` meets its contract. Assumes nothing.
use mathlib.Core.Path.{refl}
use mathlib.Core.Bool.{true, false}
use Rattle.std.proofs.lemmas.Result.{err_from_is_err_and}
use Rattle.roletable.specs.Deeds.{plan, column, first}
use Rattle.roletable.proofs.RolePromise.{let-in, kept_out, plan_call, plan_barred}
use Rattle.roles.proofs.plan_case.Goals as goal

pub returns : goal.returns
unfolding column first
returns c =
    plan_call _ _ _ _ _ _ _ _ (let-in _ plan true c.in_ok-ask.ensures refl refl) c.plan_case.ensures

pub returns-in_err-ask : goal.returns-in_err-ask
unfolding column first
returns-in_err-ask c =
    let r = err_from_is_err_and c.from_residual.result c.from_residual.ensures.1 in
    let e = c.in_err-ask.ensures in
    rw (r.1, r.2, e.0) (plan_barred _ _ _ _ _ _ (kept_out _ plan false e.1 refl))
