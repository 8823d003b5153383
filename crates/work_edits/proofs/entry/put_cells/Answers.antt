-- `work_edits::entry::put_cells` meets its contract. The invariant: the first k cells are copied. Assumes nothing.
use native.Mathlib.Omega.{arith}
use Rattle.work_store.proofs.RangeCopies.{filling_start, filling_length, filling_next, filling_end}
use Rattle.work_edits.proofs.entry.put_cells.Goals as goal

pub loop-k-init : goal.loop-k-init
loop-k-init c = filling_start _ _ _ c.requires

pub overflow_add-store : goal.overflow_add-store
overflow_add-store c = omega (arith, c.requires)

pub offset_bounds-store-at : goal.offset_bounds-store-at
offset_bounds-store-at c = omega (arith, c.requires)

pub bounds-store-at : goal.bounds-store-at
bounds-store-at c = omega (arith, c.requires, filling_length _ _ _ c.requires _ _ c.loop-k.invariant)

pub loop-k-preserved : goal.loop-k-preserved
loop-k-preserved c = filling_next _ _ _ c.requires _ _ c.loop-k.invariant _ c.loop-k-test.true

pub shape_of-store : goal.shape_of-store
shape_of-store c = filling_length _ _ _ c.requires _ _ c.loop-k.invariant

pub returns : goal.returns
returns c = filling_end _ _ _ c.requires _ _ c.loop-k.invariant (omega (arith, c.loop-k-test.false))
