-- `bounds_problem::curve::mark_all` meets its contract. Assumes nothing.
use native.Mathlib.Omega.{arith}
use Rattle.bounds_problem.proofs.HeightLoops.{mark_start, mark_long, mark_next, mark_end}
use Rattle.bounds_problem.proofs.curve.mark_all.Goals as goal

pub loop-k-init : goal.loop-k-init
loop-k-init c = mark_start c.requires.1

pub bounds-curve-k : goal.bounds-curve-k
bounds-curve-k c = omega (arith, c.requires.0.long, c.loop-k-test.true)

pub overflow_add-curve : goal.overflow_add-curve
overflow_add-curve c = let p = c.requires.0 in omega (arith, p.heights c.loop-k.k c.loop-k-test.true, p.entries c.loop-k.k c.loop-k-test.true)

pub bounds-to-k : goal.bounds-to-k
bounds-to-k c = omega (arith, mark_long c.loop-k.invariant, c.requires.1, c.loop-k-test.true)

pub loop-k-preserved : goal.loop-k-preserved
loop-k-preserved c = mark_next _ c.loop-k.invariant c.loop-k-test.true c.mark_of.ensures

pub shape_of-to : goal.shape_of-to
shape_of-to c = mark_long c.loop-k.invariant

pub returns : goal.returns
returns c = mark_end c.loop-k.invariant (omega (arith, c.loop-k-test.false))
