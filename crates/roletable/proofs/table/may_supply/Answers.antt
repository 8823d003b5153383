-- `roletable::table::may_supply` meets its contract. Assumes nothing.
use Rattle.roletable.proofs.RoleLaws.{supply_first, supply_other, supply_barred}
use Rattle.roletable.proofs.table.may_supply.Goals as goal

-- src/roles.rt:54:13
pub returns-then-i-eq1 : goal.returns-then-i-eq1
returns-then-i-eq1 c = supply_first _ _ _ c.may.ensures _ c.may_first.ensures c.if-may.true c.if-i-eq1.true

-- src/roles.rt:56:9
pub returns-then-may : goal.returns-then-may
returns-then-may c = supply_other _ _ _ c.may.ensures c.if-may.true c.if-i-eq1.false

-- src/roles.rt:49:1
pub returns : goal.returns
returns c = supply_barred _ c.args.i _ c.may.ensures c.if-may.false
