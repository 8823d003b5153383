-- `bounds_problem::curve::least_sum` meets its contract. Assumes nothing.
use mathlib.Core.Path.{◌≡◌}
use Prim.Native.Nat.{◌+◌, ◌-◌}
use lib.ListN.{get_or}
use Rattle.bounds_problem.specs.inner.Heights.{least_up_to}
use Rattle.bounds_problem.proofs.curve.least_sum.Given as goal

abbrev pub invariant-loop-k : goal.invariant-loop-k
invariant-loop-k l = l.least ≡ least_up_to (λ j. get_or l.curve j 0 + get_or l.table j 0) (l.k - 1)
