-- `dimacs::form::line_end` meets its contract. Assumes nothing.
use Rattle.dimacs.proofs.FileLines.{Along}
use Rattle.dimacs.proofs.form.line_end.Given as goal

abbrev pub invariant-loop-i : goal.invariant-loop-i
invariant-loop-i l = Along l.s l.at l.i
