-- `treepath::follow::follow` meets its contract. Assumes nothing.
use native.Mathlib.Omega.{arith}
use Rattle.treepath.proofs.TreeWalk.{walk_start, walk_next, walk_end}
use Rattle.treepath.proofs.follow.follow.Goals as goal

pub loop-before-init : goal.loop-before-init
loop-before-init c = walk_start c.requires.lt_m c.requires.prev_len

pub tied-room-requires : goal.tied-room-requires
tied-room-requires c = let i = c.loop-before.invariant in record { follow_ready = c.requires.follow_ready; v_lt_m = (i.source, i.terminal) }

pub returns-then-room-eq0-clause-prev_len_2 : goal.returns-then-room-eq0-clause-prev_len_2
returns-then-room-eq0-clause-prev_len_2 c = c.loop-before.invariant.long

pub returns-then-w-eq0 : goal.returns-then-w-eq0
returns-then-w-eq0 c =
    let t = c.tied-room.ensures (omega (arith, c.if-room-eq0.false)) in
    let e = walk_end c.loop-before.invariant t c.min-amount.ensures c.if-w-eq0.true c.loop-before-test.true in record { prev_len_2 = e.long; followed = e }

pub loop-before-preserved : goal.loop-before-preserved
loop-before-preserved c =
    walk_next c.loop-before.invariant (c.tied-room.ensures (omega (arith, c.if-room-eq0.false))) c.min-amount.ensures c.if-w-eq0.false

pub returns-clause-prev_len_2 : goal.returns-clause-prev_len_2
returns-clause-prev_len_2 c = c.loop-before.invariant.long
