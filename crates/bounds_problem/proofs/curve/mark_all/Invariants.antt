-- `bounds_problem::curve::mark_all` meets its contract. Assumes nothing.
use Rattle.bounds_problem.proofs.HeightLoops.{Marking}
use Rattle.bounds_problem.proofs.curve.mark_all.Given as goal

abbrev pub invariant-loop-k : goal.invariant-loop-k
invariant-loop-k l = Marking l.curve l.table l.bound l.k l.initial.to l.to
