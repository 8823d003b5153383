-- `bounds_problem::curve::least_sum` meets its contract. Assumes nothing.
use mathlib.Core.Path.{ap, ◌∙◌}
use Prim.Native.Nat.{ℕ, min, ◌+◌}
use native.Mathlib.Omega.{arith}
use lib.ListN.{get_or}
use Rattle.bounds_problem.specs.inner.Heights.{least_up_to, least_sum}
use Rattle.bounds_problem.proofs.HeightLoops.{least_start, least_next}
use Rattle.bounds_problem.proofs.curve.least_sum.Goals as goal

pub bounds-curve-0 : goal.bounds-curve-0
bounds-curve-0 c = let p = c.requires in omega (arith, p.some, p.long)

pub bounds-table-0 : goal.bounds-table-0
bounds-table-0 c = let p = c.requires in omega (arith, p.some)

pub overflow_add-least : goal.overflow_add-least
overflow_add-least c = let p = c.requires in omega (arith, p.heights 0 p.some, p.entries 0 p.some)

pub loop-k-init : goal.loop-k-init
loop-k-init c = least_start (λ j. get_or c.args.curve.now j 0 + get_or c.args.table.now j 0)

pub bounds-curve-k : goal.bounds-curve-k
bounds-curve-k c = let p = c.requires in omega (arith, p.long, c.loop-k-test.true)

pub overflow_add-curve : goal.overflow_add-curve
overflow_add-curve c =
    let p = c.requires in
    let k = c.loop-k.k in
    let h = c.loop-k-test.true in
    omega (arith, p.heights k h, p.entries k h)

pub loop-k-preserved : goal.loop-k-preserved
loop-k-preserved c =
    let k = c.loop-k.k in
    let f : ℕ → ℕ = λ j. get_or c.args.curve.now j 0 + get_or c.args.table.now j 0 in
    least_next f k c.min-least.result c.loop-k.auto.k (c.min-least.ensures ∙ ap (λ (v : ℕ). min v (f k)) c.loop-k.invariant)

pub returns : goal.returns
unfolding least_sum
returns c =
    c.loop-k.invariant
    ∙ ap (least_up_to (λ j. get_or c.args.curve.now j 0 + get_or c.args.table.now j 0)) (omega (arith, c.requires.some, c.loop-k-test.false))
