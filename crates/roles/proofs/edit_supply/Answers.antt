-- `roles::edit_supply` meets its contract. Assumes nothing.
use Rattle.work_store.specs.Calls.{edit_supply}
use Rattle.roletable.specs.Deeds.{work, column, first}
use Rattle.roletable.proofs.RolePromise.{let-in-first, kept_out_first, by_call, by_role}
use Rattle.roles.proofs.edit_supply.Goals as goal

pub returns : goal.returns
unfolding column first
returns c =
    by_call _ _ _ _ _ (let-in-first _ (work (edit_supply c.args.i c.args.value)) _ c.may_supply.ensures c.if-not-may_supply.false) c.edit_supply.ensures

pub returns-then-not-may_supply : goal.returns-then-not-may_supply
unfolding column first
returns-then-not-may_supply c = rw (c.at.ensures.cause, c.at.ensures.place) (by_role _ _ _ (kept_out_first _ (work (edit_supply c.args.i c.args.value)) _ c.may_supply.ensures c.if-not-may_supply.true))
