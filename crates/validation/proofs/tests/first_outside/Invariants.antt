-- `validation::tests::first_outside` meets its contract. Assumes nothing.
use mathlib.Core.Path.{◌≡◌}
use Prim.Native.Nat.{ℕ, ◌+◌, ◌*◌, ◌<◌}
use mathlib.Core.Bool.{false}
use lib.IntN.{pos}
use lib.ListN.{get_or}
use Rattle.problem.specs.Range.{outside}
use Rattle.validation.proofs.tests.first_outside.Given as goal

abbrev pub invariant-loop-j : goal.invariant-loop-j
invariant-loop-j l = (k : ℕ) → k < l.start + l.j → outside (get_or l.costs k (pos 0)) ≡ false

abbrev pub invariant-loop-i : goal.invariant-loop-i
invariant-loop-i l = (l.start ≡ l.i * l.n) × ((k : ℕ) → k < l.start → outside (get_or l.costs k (pos 0)) ≡ false)
