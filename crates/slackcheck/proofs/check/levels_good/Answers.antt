-- `slackcheck::check::levels_good` meets its contract. Assumes nothing.
use Rattle.std.proofs.Common.{sym, true≢false, arith, below_more}
use Rattle.slackcheck.proofs.check.levels_good.Goals as goal

pub loop-v-init : goal.loop-v-init
loop-v-init c = (omega arith, λ k h. absurd (omega arith))

pub returns-then-pot-v-lt416000000 : goal.returns-then-pot-v-lt416000000
returns-then-pot-v-lt416000000 c = λ e. absurd (true≢false (sym e))

pub returns-then-pot-v-gt800000000 : goal.returns-then-pot-v-gt800000000
returns-then-pot-v-gt800000000 c = λ e. absurd (true≢false (sym e))

pub loop-v-preserved : goal.loop-v-preserved
loop-v-preserved c =
    (omega (arith, c.loop-v-test.true), below_more _ _ c.loop-v.invariant.1 (c.if-pot-v-lt416000000.false, c.if-pot-v-gt800000000.false))

pub returns : goal.returns
returns c = λ e. record { low = λ v h. (c.loop-v.invariant.1 v (omega (arith, c.loop-v-test.false))).0; high = λ v h. (c.loop-v.invariant.1 v (omega (arith, c.loop-v-test.false))).1 }
