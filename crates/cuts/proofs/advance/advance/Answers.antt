-- `cuts::advance::advance` meets its contract. Assumes nothing.
use Rattle.cuts.proofs.TablesKept.{cut_wide, cut_narrow, ahead_wide, ahead_narrow, advanced_under}
use Rattle.cuts.proofs.advance.advance.Goals as goal

pub cut_until-requires : goal.cut_until-requires
cut_until-requires c = let r = c.requires in record { cut_ready = cut_wide r.tables r.weights_ready r.priced; priced = r.priced; lt_m = r.lt_sources }

pub returns-then-task : goal.returns-then-task
returns-then-task c = record { advanced_under = advanced_under (ahead_wide c.requires.tables c.if-task.true) c.cut_until.ensures.advanced; same = c.cut_until.ensures.same; prev_len = c.cut_until.ensures.prev_len; followed = c.cut_until.ensures.followed }

pub cut_until-requires-2 : goal.cut_until-requires-2
cut_until-requires-2 c =
    let r = c.requires in record { cut_ready = cut_narrow r.tables c.if-task.false r.weights_ready; priced = r.priced; lt_m = r.lt_sources }

pub returns : goal.returns
returns c = record { advanced_under = advanced_under (ahead_narrow c.requires.tables c.if-task.false) c.cut_until-2.ensures.advanced; same = c.cut_until-2.ensures.same; prev_len = c.cut_until-2.ensures.prev_len; followed = c.cut_until-2.ensures.followed }
