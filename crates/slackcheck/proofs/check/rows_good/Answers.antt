-- `slackcheck::check::rows_good` meets its contract. Assumes nothing.
use Rattle.std.proofs.Common.{◌+◌, sym, true≢false, arith, below_more}
use Rattle.slackcheck.proofs.check.rows_good.Goals as goal

pub loop-i-init : goal.loop-i-init
loop-i-init c = (omega arith, λ k h. absurd (omega arith))

pub amount_at-amount-requires : goal.amount_at-amount-requires
amount_at-amount-requires c = (omega (arith, c.requires.check_ready.sources, c.loop-i-test.true), c.requires.split_le_made)

pub row_good-requires : goal.row_good-requires
row_good-requires c =
    let r = c.requires in
    record {
      source = omega (arith, r.check_ready.sources, c.loop-i-test.true);
      terminals = r.check_ready.terminals;
      costs = λ j h. r.check_ready.costs c.loop-i.i j c.loop-i-test.true h;
      high = r.levels.high c.loop-i.i (omega (arith, r.check_ready.sources, c.loop-i-test.true));
      ends = λ j h. r.levels.high (32 + j) (omega (arith, r.check_ready.terminals));
    }

pub returns-then-not-row_good : goal.returns-then-not-row_good
returns-then-not-row_good c = λ e. absurd (true≢false (sym e))

pub loop-i-preserved : goal.loop-i-preserved
loop-i-preserved c =
    (omega (arith, c.loop-i-test.true), below_more _ _ c.loop-i.invariant.1 (rw c.amount_at-amount.ensures at (c.row_good.ensures c.if-not-row_good.false)))

pub returns : goal.returns
returns c = λ e i h. c.loop-i.invariant.1 i (omega (arith, c.loop-i-test.false))
