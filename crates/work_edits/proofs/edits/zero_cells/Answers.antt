-- `work_edits::edits::zero_cells` meets its contract. Assumes nothing.
use native.Mathlib.Omega.{arith}
use Rattle.work_store.specs.Store.{zeroed}
use Rattle.work_store.proofs.RangeCopies.{filling_start, filling_length, zero_fits, zero_next, zero_end}
use Rattle.work_edits.proofs.edits.zero_cells.Goals as goal

pub loop-i-init : goal.loop-i-init
loop-i-init c = filling_start _ _ _ (zero_fits _ _ c.args.store.now c.requires)

pub overflow_add-store : goal.overflow_add-store
overflow_add-store c = omega (arith, c.requires)

pub offset_bounds-store-from : goal.offset_bounds-store-from
offset_bounds-store-from c = omega (arith, c.requires)

pub bounds-store-from : goal.bounds-store-from
bounds-store-from c = omega (arith, c.requires, filling_length _ _ _ (zero_fits _ _ c.args.store.now c.requires) _ _ c.loop-i.invariant)

pub loop-i-preserved : goal.loop-i-preserved
loop-i-preserved c = zero_next _ _ _ c.requires _ _ c.loop-i.invariant c.loop-i-test.true

pub shape_of-store : goal.shape_of-store
shape_of-store c = filling_length _ _ _ (zero_fits _ _ c.args.store.now c.requires) _ _ c.loop-i.invariant

pub returns : goal.returns
unfolding zeroed
returns c = zero_end _ _ _ c.requires _ _ c.loop-i.invariant c.loop-i-test.false
