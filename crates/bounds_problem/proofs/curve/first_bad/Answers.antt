-- `bounds_problem::curve::first_bad` meets its contract. Assumes nothing.
use native.Mathlib.Omega.{arith}
use Rattle.bounds_problem.proofs.HeightLoops.{below_low, above_most, bad_some, bad_none}
use Rattle.bounds_problem.proofs.curve.first_bad.Goals as goal
use Rattle.bounds_problem.proofs.curve.first_bad.Goals.{then-high-k-via-then-high-k, then-high-k-via-else-high-k+then-high-k-gt1000000000}

pub loop-k-init : goal.loop-k-init
loop-k-init c = λ j h. absurd (omega arith)

pub returns-then-high-k : goal.returns-then-high-k
returns-then-high-k c =
    let s = c.args in
    let k = c.loop-k.k in
    let here = bad_some s.low.now s.high.now k c.loop-k-test.true c.loop-k.invariant in
    elim c.then-high-k.branch [
      | then-high-k-via-then-high-k w ↦ here (below_low s.low.now s.high.now k w.if-high-k.true)
      | then-high-k-via-else-high-k+then-high-k-gt1000000000 w ↦ here (above_most s.low.now s.high.now k w.if-high-k-gt1000000000.true)
    ]

pub returns : goal.returns
returns c = bad_none c.args.low.now c.args.high.now (λ j h. c.loop-k.invariant j (omega (arith, c.loop-k-test.false)))
