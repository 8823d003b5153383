-- `bounded::solve::full_row` is safe and ends. Assumes nothing.
use Rattle.std.proofs.Common.{◌≡◌, ◌<◌, length}
use Rattle.bounded.proofs.solve.full_row.Given as goal

abbrev pub invariant-loop-left : goal.invariant-loop-left
invariant-loop-left l = (l.i < 32) × (length l.x ≡ 2048)

abbrev pub decreases-loop-left : goal.decreases-loop-left
decreases-loop-left l = l.left
