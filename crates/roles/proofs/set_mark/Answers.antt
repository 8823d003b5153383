-- `roles::set_mark` meets its contract. Assumes nothing.
use mathlib.Core.Path.{refl}
use mathlib.Core.Bool.{true, false}
use Rattle.work_store.specs.Calls.{set_mark}
use Rattle.std.proofs.lemmas.Result.{err_from_is_err_and}
use Rattle.roletable.specs.Deeds.{work, column, first}
use Rattle.roletable.proofs.RolePromise.{let-in, kept_out, by_call, by_role}
use Rattle.roles.proofs.set_mark.Goals as goal

pub returns : goal.returns
unfolding column first
returns c =
    by_call _ _ _ _ _ (let-in _ (work (set_mark c.args.k)) true c.in_ok-ask.ensures refl refl) c.set_mark.ensures

pub returns-in_err-ask : goal.returns-in_err-ask
unfolding column first
returns-in_err-ask c =
    let r = err_from_is_err_and c.from_residual.result c.from_residual.ensures.1 in
    let e = c.in_err-ask.ensures in
    rw (r.1, r.2, e.0) (by_role _ _ _ (kept_out _ (work (set_mark c.args.k)) false e.1 refl))
