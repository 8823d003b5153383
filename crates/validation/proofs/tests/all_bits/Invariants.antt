-- `validation::tests::all_bits` meets its contract. Assumes nothing.
use Prim.Native.Nat.{◌-◌, ◌≤◌}
use Rattle.validation.specs.inner.Above.{NoneAbove}
use Rattle.validation.proofs.tests.all_bits.Given as goal

abbrev pub invariant-loop-i : goal.invariant-loop-i
invariant-loop-i l = (l.i ≤ 16) × NoneAbove l.s l.k l.i l.all

abbrev pub decreases-loop-i : goal.decreases-loop-i
decreases-loop-i l = 16 - l.i
