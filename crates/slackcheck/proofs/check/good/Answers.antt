-- `slackcheck::check::good` meets its contract. Assumes nothing.
use Rattle.std.proofs.Common.{sym, true≢false}
use Rattle.slackcheck.proofs.check.good.Goals as goal

pub returns-then-not-levels_good : goal.returns-then-not-levels_good
returns-then-not-levels_good c = λ e. absurd (true≢false (sym e))

pub rows_good-requires : goal.rows_good-requires
rows_good-requires c = record { check_ready = c.requires.check_ready; split_le_made = c.requires.split_le_made; levels = c.levels_good.ensures c.if-not-levels_good.false }

pub returns-then-not-rows_good : goal.returns-then-not-rows_good
returns-then-not-rows_good c = λ e. absurd (true≢false (sym e))

pub columns_good-requires : goal.columns_good-requires
columns_good-requires c =
    let r = c.requires.check_ready in
    record { sources = r.sources; terminals = r.terminals; few = λ i j hi hj. ((c.rows_good.ensures c.if-not-rows_good.false i hi).lanes j hj).few }

pub returns : goal.returns
returns c =
    λ e. record {
      levels = c.levels_good.ensures c.if-not-levels_good.false;
      rows = c.rows_good.ensures c.if-not-rows_good.false;
      columns = c.columns_good.ensures e;
    }
