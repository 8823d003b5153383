-- `cuts::cut::top` meets its contract. Assumes nothing.
use native.Mathlib.Omega.{arith}
use mathlib.Core.Path.{◌≡◌}
use Rattle.cuts.proofs.CutSteps.{top_next}
use Rattle.cuts.proofs.cut.top.Goals as goal

pub loop-v-init : goal.loop-v-init
loop-v-init c = (omega arith, record { each = λ v h. absurd (omega arith) })

pub loop-v-preserved : goal.loop-v-preserved
loop-v-preserved c = (omega (arith, c.loop-v-test.true), top_next c.loop-v.invariant.1)

pub returns : goal.returns
returns c = let z : c.loop-v.v ≡ 96 = omega (arith, c.loop-v-test.false, c.loop-v.invariant.0) in rw (← z) c.loop-v.invariant.1
