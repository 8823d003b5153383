-- `bounds_problem::curve::first_bad` meets its contract. Assumes nothing.
use mathlib.Core.Path.{◌≡◌}
use mathlib.Core.Bool.{false}
use Prim.Native.Nat.{ℕ, ◌<◌}
use Rattle.bounds_problem.proofs.HeightLoops.{bad}
use Rattle.bounds_problem.proofs.curve.first_bad.Given as goal

abbrev pub invariant-loop-k : goal.invariant-loop-k
invariant-loop-k l = (j : ℕ) → j < l.k → bad l.low l.high j ≡ false
