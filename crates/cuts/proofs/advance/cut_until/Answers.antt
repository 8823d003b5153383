-- `cuts::advance::cut_until` meets its contract. Assumes nothing.
use mathlib.Core.Path.{refl}
use Rattle.cuts.proofs.Advancing.{advance_start, advance_on, advance_ready, follow_ready}
use Rattle.cuts.proofs.advance.cut_until.Goals as goal

pub returns-then-tree-ge-NONE-clause-advanced : goal.returns-then-tree-ge-NONE-clause-advanced
returns-then-tree-ge-NONE-clause-advanced c = advance_start c.requires.cut_ready

pub loop-init : goal.loop-init
loop-init c = let r = c.requires in (r.lt_m.1, advance_start r.cut_ready, refl)

pub step-requires : goal.step-requires
step-requires c = record { cut_ready = advance_ready c.requires.cut_ready c.loop.invariant.1; priced = c.requires.priced }

pub returns-in_err-flat-clause-advanced : goal.returns-in_err-flat-clause-advanced
returns-in_err-flat-clause-advanced c = advance_on c.loop.invariant.2 c.loop.invariant.1 c.step.ensures

pub returns-in_err-flat-clause-prev_len : goal.returns-in_err-flat-clause-prev_len
returns-in_err-flat-clause-prev_len c = c.loop.invariant.0

pub follow-requires : goal.follow-requires
follow-requires c =
    let r = c.requires in
    record { follow_ready = follow_ready r.cut_ready r.priced (advance_on c.loop.invariant.2 c.loop.invariant.1 c.step.ensures); lt_m = r.lt_m.0; prev_len = c.loop.invariant.0 }

pub returns-in-Ok-clause-advanced : goal.returns-in-Ok-clause-advanced
returns-in-Ok-clause-advanced c = advance_on c.loop.invariant.2 c.loop.invariant.1 c.step.ensures

pub loop-preserved : goal.loop-preserved
loop-preserved c = (c.follow.ensures.prev_len_2, advance_on c.loop.invariant.2 c.loop.invariant.1 c.step.ensures, c.loop.invariant.2)

pub returns-clause-advanced : goal.returns-clause-advanced
returns-clause-advanced c = c.loop.invariant.1

pub returns-clause-prev_len : goal.returns-clause-prev_len
returns-clause-prev_len c = c.loop.invariant.0

pub returns-in_err-flat-clause-same : goal.returns-in_err-flat-clause-same
returns-in_err-flat-clause-same c = c.loop.invariant.2

pub returns-in-Ok-clause-same : goal.returns-in-Ok-clause-same
returns-in-Ok-clause-same c = c.loop.invariant.2

pub returns-in-Ok-clause-followed : goal.returns-in-Ok-clause-followed
returns-in-Ok-clause-followed c = rw (← c.loop.invariant.2) c.in-Ok.ensures.followed

pub returns-clause-same : goal.returns-clause-same
returns-clause-same c = c.loop.invariant.2
