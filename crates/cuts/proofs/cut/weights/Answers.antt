-- `cuts::cut::weights` meets its contract. Assumes nothing.
use native.Mathlib.Omega.{arith}
use mathlib.Core.Path.{◌≡◌, refl}
use Rattle.cuts.proofs.CutSteps.{weigh_start, weigh_next}
use Rattle.cuts.proofs.cut.weights.Goals as goal

pub loop-v-init : goal.loop-v-init
loop-v-init c = (omega arith, omega arith, weigh_start c.requires.long)

pub overflow_sub-weight : goal.overflow_sub-weight
overflow_sub-weight c = omega (arith, c.requires.high c.loop-v.v c.loop-v-test.true)

pub loop-v-preserved : goal.loop-v-preserved
loop-v-preserved c =
    let i = c.loop-v.invariant in
    (omega (arith, i.0), omega (arith, c.loop-v-test.true), weigh_next i.2 i.0 c.loop-v-test.true (c.requires.high c.loop-v.v c.loop-v-test.true) refl)

pub returns : goal.returns
returns c = let z : c.loop-v.v ≡ 96 = omega (arith, c.loop-v-test.false, c.loop-v.invariant.1) in rw (← z) c.loop-v.invariant.2
