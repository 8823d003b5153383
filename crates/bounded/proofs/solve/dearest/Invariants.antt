-- `bounded::solve::dearest` is safe and ends. Assumes nothing.
use Rattle.std.proofs.Common.{◌<◌, ◌≤◌}
use Rattle.bounded.proofs.solve.dearest.Given as goal

abbrev pub invariant-loop-left : goal.invariant-loop-left
invariant-loop-left l = (l.base < 33554432) × (l.left ≤ l.full)

abbrev pub decreases-loop-left : goal.decreases-loop-left
decreases-loop-left l = l.left
