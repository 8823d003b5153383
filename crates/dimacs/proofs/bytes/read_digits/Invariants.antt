-- `dimacs::bytes::read_digits` meets its contract. Assumes nothing.
use Prim.Native.Nat.{◌+◌, ◌-◌}
use Rattle.dimacs.proofs.LineOffsets.{SoFar}
use Rattle.dimacs.proofs.bytes.read_digits.Given as goal

abbrev pub invariant-loop-next : goal.invariant-loop-next
invariant-loop-next l = SoFar l.s l.at l.first l.value l.next (l.at + 9 - l.next)
