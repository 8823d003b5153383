-- `cuts::columns::renew` meets its contract. Assumes nothing.
use native.Mathlib.Omega.{arith}
use Rattle.cuts.proofs.columns.renew.Goals as goal

pub overflow_sub-w : goal.overflow_sub-w
overflow_sub-w c = omega (arith, (c.requires.source c.if-v-lt32.true).0)

pub write-requires : goal.write-requires
write-requires c = let s = c.requires.source c.if-v-lt32.true in (c.if-v-lt32.true, omega (arith, s.0, s.1))

pub write-requires-else-v-lt32 : goal.write-requires-else-v-lt32
write-requires-else-v-lt32 c = let s = c.requires.terminal c.if-v-lt32.false in (s.0, omega (arith, s.1, c.if-v-lt32.false))

pub returns-then-v-lt32 : goal.returns-then-v-lt32
returns-then-v-lt32 c = record { less = λ h. c.write.ensures; more = λ h. absurd (omega (arith, c.if-v-lt32.true)) }

pub returns-else-v-lt32 : goal.returns-else-v-lt32
returns-else-v-lt32 c = record { less = λ h. absurd (omega (arith, c.if-v-lt32.false)); more = λ h. c.write-else-v-lt32.ensures }
