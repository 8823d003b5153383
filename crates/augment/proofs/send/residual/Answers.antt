-- `augment::send::residual` meets its contract. Assumes nothing.
use native.Mathlib.Omega.{arith}
use Rattle.augment.proofs.send.residual.Goals as goal

pub overflow_sub-result : goal.overflow_sub-result
overflow_sub-result c = omega (arith, c.requires.less c.if-v-lt32.true)

pub overflow_add-result : goal.overflow_add-result
overflow_add-result c = omega (arith, c.requires.less c.if-v-lt32.true)

pub offset_bounds-x-v : goal.offset_bounds-x-v
offset_bounds-x-v c = omega (arith, c.requires.less c.if-v-lt32.true)

pub bounds-x-v : goal.bounds-x-v
bounds-x-v c = omega (arith, c.requires.less c.if-v-lt32.true)

pub overflow_mul-k : goal.overflow_mul-k
overflow_mul-k c = omega (arith, c.requires.more c.if-v-lt32.false)

pub overflow_add-k : goal.overflow_add-k
overflow_add-k c = omega (arith, c.requires.more c.if-v-lt32.false)

pub offset_bounds-cap-k : goal.offset_bounds-cap-k
offset_bounds-cap-k c = omega (arith, c.requires.more c.if-v-lt32.false)

pub bounds-cap-k : goal.bounds-cap-k
bounds-cap-k c = omega (arith, c.requires.more c.if-v-lt32.false)

pub offset_bounds-x-k : goal.offset_bounds-x-k
offset_bounds-x-k c = omega (arith, c.requires.more c.if-v-lt32.false)

pub bounds-x-k : goal.bounds-x-k
bounds-x-k c = omega (arith, c.requires.more c.if-v-lt32.false)

pub overflow_sub-result-2 : goal.overflow_sub-result-2
overflow_sub-result-2 c = omega (arith, c.requires.more c.if-v-lt32.false)
