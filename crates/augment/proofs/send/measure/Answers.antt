-- `augment::send::measure` meets its contract. Assumes nothing.
use Prim.Native.Nat.{◌-◌}
use native.Mathlib.Omega.{arith}
use Rattle.augment.proofs.PathMeasure.{measure_start, measure_prev, measure_ready, measure_few, measure_next, measure_end}
use Rattle.augment.proofs.send.measure.Goals as goal

pub loop-v-init : goal.loop-v-init
loop-v-init c = measure_start

pub offset_bounds-prev-v : goal.offset_bounds-prev-v
offset_bounds-prev-v c = omega (arith, (c.loop-v.invariant.each c.requires).node)

pub bounds-prev-v : goal.bounds-prev-v
bounds-prev-v c = (c.loop-v.invariant.each c.requires).node

pub overflow_cast-w : goal.overflow_cast-w
overflow_cast-w c = omega (arith, measure_prev c.loop-v.invariant c.loop-v-test.true c.requires)

pub residual-requires : goal.residual-requires
residual-requires c = measure_ready c.loop-v.invariant c.loop-v-test.true c.requires

pub overflow_add-count : goal.overflow_add-count
overflow_add-count c =
    omega (arith, measure_few c.loop-v.invariant c.loop-v-test.true c.requires)

pub loop-v-smaller : goal.loop-v-smaller
loop-v-smaller c =
    omega (arith, measure_few c.loop-v.invariant c.loop-v-test.true c.requires)

pub loop-v-preserved : goal.loop-v-preserved
loop-v-preserved c = measure_next c.loop-v.invariant c.loop-v-test.true c.residual.ensures c.min-amount.ensures

pub returns : goal.returns
returns c = measure_end c.loop-v.invariant c.loop-v-test.false
