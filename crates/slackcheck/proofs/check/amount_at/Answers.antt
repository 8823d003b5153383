-- `slackcheck::check::amount_at` meets its contract. Assumes nothing.
use Rattle.std.proofs.Common.{arith}
use Rattle.slackcheck.proofs.Checking.{amount_first, amount_second, amount_depot}
use Rattle.slackcheck.proofs.check.amount_at.Goals as goal

pub returns-then-i-eq0 : goal.returns-then-i-eq0
returns-then-i-eq0 c = rw c.if-i-eq0.true (amount_first _ _ _)

pub returns-then-i-eq1 : goal.returns-then-i-eq1
returns-then-i-eq1 c = rw c.if-i-eq1.true (amount_second _ _ _)

pub returns : goal.returns
returns c = amount_depot _ _ _ _ (omega (arith, c.if-i-eq0.false, c.if-i-eq1.false))
