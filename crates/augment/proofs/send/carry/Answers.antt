-- `augment::send::carry` meets its contract. Assumes nothing.
use native.Mathlib.Omega.{arith}
use Rattle.augment.proofs.send.carry.Goals as goal

pub overflow_sub-w : goal.overflow_sub-w
overflow_sub-w c = omega (arith, c.requires.less c.if-v-lt32.true)

pub overflow_add-v : goal.overflow_add-v
overflow_add-v c = omega (arith, c.requires.less c.if-v-lt32.true)

pub take-requires : goal.take-requires
take-requires c = let h = c.requires.less c.if-v-lt32.true in (omega arith, h.2)

pub overflow_mul-w : goal.overflow_mul-w
overflow_mul-w c = omega (arith, c.requires.more c.if-v-lt32.false)

pub overflow_add-w : goal.overflow_add-w
overflow_add-w c = omega (arith, c.requires.more c.if-v-lt32.false)

pub give-requires : goal.give-requires
give-requires c = let h = c.requires.more c.if-v-lt32.false in (omega arith, h.2)

pub returns-then-v-lt32 : goal.returns-then-v-lt32
returns-then-v-lt32 c = record { less = λ h. c.take.ensures; more = λ h. absurd (omega (arith, c.if-v-lt32.true)) }

pub returns-else-v-lt32 : goal.returns-else-v-lt32
returns-else-v-lt32 c = record { less = λ h. absurd (omega (arith, c.if-v-lt32.false)); more = λ h. c.give.ensures }
