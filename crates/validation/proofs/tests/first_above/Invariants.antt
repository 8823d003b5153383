-- `validation::tests::first_above` meets its contract. The invariant: none of the numbers passed is above the limit. Assumes nothing.
use Prim.Native.Nat.{ℕ, ◌≤◌, ◌<◌}
use lib.ListN.{get_or}
use Rattle.validation.proofs.tests.first_above.Given as goal

abbrev pub invariant-loop-k : goal.invariant-loop-k
invariant-loop-k l = (j : ℕ) → j < l.k → get_or l.s j 0 ≤ l.limit
