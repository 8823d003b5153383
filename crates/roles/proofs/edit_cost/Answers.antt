-- `roles::edit_cost` meets its contract. Assumes nothing.
use mathlib.Core.Path.{refl}
use mathlib.Core.Bool.{true, false}
use Rattle.work_store.specs.Calls.{edit_cost}
use Rattle.std.proofs.lemmas.Result.{err_from_is_err_and}
use Rattle.roletable.specs.Deeds.{work, column, first}
use mir.Syntax.{w64}
use mir.ValLaws.{to_z-of_z}
use Rattle.roletable.proofs.RolePromise.{let-in, kept_out, by_call, by_role}
use Rattle.work_store.proofs.CallPromise.{same_cost}
use Rattle.roles.proofs.edit_cost.Goals as goal

pub returns : goal.returns
unfolding column first
returns c =
    by_call _ _ _ _ _
    (let-in _ (work (edit_cost c.args.i c.args.j c.args.value)) true c.in_ok-ask.ensures refl refl)
    (same_cost _ _ _ _ _ _ _ (to_z-of_z w64 c.args.value c.ranges.value) c.edit_cost.ensures)

pub returns-in_err-ask : goal.returns-in_err-ask
unfolding column first
returns-in_err-ask c =
    let r = err_from_is_err_and c.from_residual.result c.from_residual.ensures.1 in
    let e = c.in_err-ask.ensures in
    rw (r.1, r.2, e.0) (by_role _ _ _ (kept_out _ (work (edit_cost c.args.i c.args.j c.args.value)) false e.1 refl))
