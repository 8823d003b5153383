-- `stretch::undo::undo` meets its contract. Assumes nothing.
use native.Mathlib.Omega.{arith}
use Rattle.stretch.proofs.UndoWalk.{under_start, under_node, under_next, under_end}
use Rattle.stretch.proofs.undo.undo.Goals as goal

pub loop-left-init : goal.loop-left-init
loop-left-init c = λ u. under_start u

pub offset_bounds-prev-v : goal.offset_bounds-prev-v
offset_bounds-prev-v c = omega (arith, (under_node (c.loop-left.invariant c.requires) c.loop-left-test.true).0)

pub bounds-prev-v : goal.bounds-prev-v
bounds-prev-v c = (under_node (c.loop-left.invariant c.requires) c.loop-left-test.true).0

pub overflow_cast-w : goal.overflow_cast-w
overflow_cast-w c = omega (arith, (under_node (c.loop-left.invariant c.requires) c.loop-left-test.true).1)

pub carry-requires : goal.carry-requires
carry-requires c = (under_node (c.loop-left.invariant c.requires) c.loop-left-test.true).2

pub loop-left-preserved : goal.loop-left-preserved
loop-left-preserved c = λ u. under_next (c.loop-left.invariant u) c.loop-left-test.true c.carry.ensures

pub returns : goal.returns
returns c = record { rest = λ u. under_end (c.loop-left.invariant u) c.loop-left-test.false }
