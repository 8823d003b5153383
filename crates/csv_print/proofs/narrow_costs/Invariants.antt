-- `csv_print::narrow_costs` meets its contract. Assumes nothing.
use Prim.Native.Nat.{ℕ, ◌-◌, ◌≤◌, ◌<◌, ◌^◌}
use lib.IntN.{pos, nat_abs}
use lib.ListN.{get_or}
use Rattle.csv_print.proofs.narrow_costs.Given as goal

abbrev pub invariant-loop-k : goal.invariant-loop-k
invariant-loop-k l = (l.k ≤ l.count) × ((i : ℕ) → i < l.k → nat_abs (get_or l.s i (pos 0)) < 2 ^ 31)

abbrev pub decreases-loop-k : goal.decreases-loop-k
decreases-loop-k l = l.count - l.k
