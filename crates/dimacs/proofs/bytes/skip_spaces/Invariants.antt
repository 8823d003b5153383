-- `dimacs::bytes::skip_spaces` meets its contract. Assumes nothing.
use mathlib.Core.Path.{◌≡◌}
use Prim.Native.Nat.{◌-◌, ◌≤◌}
use lib.ListN.{length, drop}
use Rattle.dimacs.specs.Bytes.{spaces}
use Rattle.dimacs.proofs.bytes.skip_spaces.Given as goal

abbrev pub invariant-loop-at : goal.invariant-loop-at
invariant-loop-at l = (l.next ≤ length l.s) × (spaces (drop l.at l.s) ≡ spaces (drop l.next l.s))

abbrev pub decreases-loop-at : goal.decreases-loop-at
decreases-loop-at l = length l.s - l.next
