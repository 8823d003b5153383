-- `stretch::undo::undo` meets its contract. Assumes nothing.
use Rattle.stretch.specs.inner.PathUndone.{Undoing, Underway}
use Rattle.stretch.proofs.undo.undo.Given as goal

abbrev pub invariant-loop-left : goal.invariant-loop-left
invariant-loop-left l = (u : Undoing l.prev l.amount l.count l.goal l.initial.x) → Underway l.prev l.amount l.count l.goal l.initial.x u l.left l.v l.x
