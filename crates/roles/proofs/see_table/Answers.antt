-- `roles::see_table` meets its contract. Assumes nothing.
use mathlib.Core.Path.{refl}
use mathlib.Core.Bool.{true, false}
use Rattle.std.proofs.lemmas.Result.{err_from_is_err_and}
use Rattle.roletable.specs.Deeds.{see_table, column, first}
use Rattle.roletable.proofs.RolePromise.{let-in, kept_out, table_call, table_barred}
use Rattle.roles.proofs.see_table.Goals as goal

pub returns : goal.returns
unfolding column first
returns c =
    table_call _ _ _ _ _ (let-in _ see_table true c.in_ok-ask.ensures refl refl) c.see_table.ensures

pub returns-in_err-ask : goal.returns-in_err-ask
unfolding column first
returns-in_err-ask c =
    let r = err_from_is_err_and c.from_residual.result c.from_residual.ensures.1 in
    let e = c.in_err-ask.ensures in
    rw (r.1, r.2, e.0) (table_barred _ _ _ (kept_out _ see_table false e.1 refl))
