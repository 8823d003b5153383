-- `write_case::test_case` meets its contract. Assumes nothing.
use Prim.Native.Nat.{ℕ, ◌-◌, ◌≤◌, ◌<◌}
use lib.ListN.{length, get_or}
use Rattle.write_case.proofs.test_case.Given as goal

abbrev pub invariant-loop-y : goal.invariant-loop-y
invariant-loop-y l = (l.y ≤ length l.table) × ((k : ℕ) → k < l.y → get_or l.table k 0 ≤ 9999999999)

abbrev pub decreases-loop-y : goal.decreases-loop-y
decreases-loop-y l = length l.table - l.y
