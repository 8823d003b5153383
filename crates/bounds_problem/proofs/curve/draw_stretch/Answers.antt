-- `bounds_problem::curve::draw_stretch` meets its contract. Assumes nothing.
use mathlib.Core.Path.{◌≡◌}
use Prim.Native.Nat.{◌+◌}
use native.Mathlib.Omega.{arith}
use Rattle.bounds_problem.proofs.HeightLoops.{stretch_start, stretch_next}
use Rattle.bounds_problem.proofs.curve.draw_stretch.Goals as goal

pub loop-y-init : goal.loop-y-init
loop-y-init c = stretch_start _

pub between-requires : goal.between-requires
between-requires c = let p = c.requires in (p.rises, omega arith, omega arith, p.limit, p.first, p.last)

pub overflow_sub-to : goal.overflow_sub-to
overflow_sub-to c = omega (arith, c.requires.from)

pub bounds-to-y : goal.bounds-to-y
bounds-to-y c = omega (arith, c.requires.room, c.loop-y-test.true, c.loop-y.invariant.long)

pub loop-y-preserved : goal.loop-y-preserved
loop-y-preserved c =
    let p = c.requires in
    stretch_next c.loop-y.y _ c.loop-y.to c.between.result c.loop-y.invariant p.from (omega arith) (omega (arith, p.room)) c.between.ensures

pub returns : goal.returns
returns c =
    let i = c.loop-y.invariant in
    let p = c.requires in
    let e : c.loop-y.y ≡ c.args.q + 1 = omega (arith, p.rises) in
    record { long = i.long; points = λ z a b. i.points z a (omega arith); kept = λ k no. i.kept k (λ a b. no a (omega arith)) }
