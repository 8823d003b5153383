-- `validation::tests::sum_of` meets its contract. The invariant: the total is the sum of the numbers passed, and at most 4,000 for each. Assumes nothing.
use mathlib.Core.Path.{◌≡◌}
use Prim.Native.Nat.{◌≤◌, ◌*◌}
use lib.ListN.{get_or}
use Rattle.transport.specs.Sum.{sum}
use Rattle.validation.proofs.tests.sum_of.Given as goal

abbrev pub invariant-loop-x : goal.invariant-loop-x
invariant-loop-x l = (l.total ≡ sum l.x-index (λ j. get_or l.s j 0)) × (l.total ≤ 4000 * l.x-index)
