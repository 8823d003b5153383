-- `bounds_problem::curve::draw_stretch` meets its contract. Assumes nothing.
use Rattle.bounds_problem.proofs.HeightLoops.{StretchSoFar}
use Rattle.bounds_problem.proofs.curve.draw_stretch.Given as goal

abbrev pub invariant-loop-y : goal.invariant-loop-y
invariant-loop-y l = StretchSoFar l.lo l.p l.q l.a l.b l.y l.initial.to l.to
