-- `dimacs::store::read_file` meets its contract. Assumes nothing.
use Prim.Native.Nat.{◌-◌}
use lib.ListN.{length}
use Rattle.dimacs.proofs.StoredLines.{Kept}
use Rattle.dimacs.proofs.store.read_file.Given as goal

abbrev pub invariant-loop-t : goal.invariant-loop-t
invariant-loop-t l =
    Kept l.s l.t l.at l.line l.odd l.bad l.starts l.ends l.ceilings l.costs l.gives l.takes l.marks

abbrev pub decreases-loop-t : goal.decreases-loop-t
decreases-loop-t l =
    length l.s - l.at
