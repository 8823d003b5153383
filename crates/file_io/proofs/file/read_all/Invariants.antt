use Rattle.std.proofs.Common.{◌-◌, ◌≡◌, length, ◌≤◌}
use Rattle.file_io.proofs.file.read_all.Given as goal

abbrev pub invariant-loop-at : goal.invariant-loop-at
invariant-loop-at g l = (length l.room ≡ length l.fn.room) × ((l.size ≡ length l.fn.room) × (l.at ≤ l.size))

abbrev pub decreases-loop-at : goal.decreases-loop-at
decreases-loop-at g l = l.size - l.at
