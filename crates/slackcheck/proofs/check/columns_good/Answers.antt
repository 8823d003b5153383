-- `slackcheck::check::columns_good` meets its contract. Assumes nothing.
use Rattle.std.proofs.Common.{sym, ◌∙◌, true≢false, arith, below_more}
use Rattle.slackcheck.proofs.check.columns_good.Goals as goal

pub column_sums-got-requires : goal.column_sums-got-requires
column_sums-got-requires c = c.requires

pub loop-j-init : goal.loop-j-init
loop-j-init c = (omega arith, c.column_sums-got.ensures, λ b l. absurd (omega arith))

pub returns-then-got-j : goal.returns-then-got-j
returns-then-got-j c = λ e. absurd (true≢false (sym e))

pub loop-j-preserved : goal.loop-j-preserved
loop-j-preserved c = let q = c.loop-j.invariant in (omega (arith, c.loop-j-test.true), q.1, below_more _ _ q.2 c.if-got-j.false)

pub returns : goal.returns
returns c = λ e j h. sym (c.loop-j.invariant.1.sums j h) ∙ c.loop-j.invariant.2 j (omega (arith, c.loop-j-test.false))
