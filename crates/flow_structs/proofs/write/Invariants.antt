-- `flow_structs::write`: the first i cells are the arcs that were found, the later ones as they were. Assumes nothing.
use Rattle.std.proofs.Common.{◌≡◌}
use Rattle.flow_arcs.specs.Lent.{arc_at}
use Rattle.flow_structs.proofs.WrittenFront.{front}
use Rattle.flow_structs.proofs.write.Given as goal

abbrev pub invariant-loop-i : goal.invariant-loop-i
invariant-loop-i l = l.arcs ≡ front (arc_at l.found) l.i l.initial.arcs
