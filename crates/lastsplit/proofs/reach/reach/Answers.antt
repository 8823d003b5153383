-- `lastsplit::reach::reach` meets its contract. Assumes nothing.
use mathlib.Core.Path.{refl}
use native.Mathlib.Omega.{arith}
use Rattle.lastsplit.proofs.LastSplit.{reach_start, reach_send, reach_wanted, reach_next, reach_stuck, reach_end}
use Rattle.lastsplit.proofs.reach.reach.Goals as goal

pub loop-gone-init : goal.loop-gone-init
loop-gone-init c = (reach_start refl c.requires.reach_ready, c.requires.covers)

pub send-requires : goal.send-requires
send-requires c =
    let q = c.loop-gone.invariant in record { send_ready = reach_send q.0 c.loop-gone-test.true; wanted = reach_wanted q.0 c.args.demand.now c.requires.wanted; covers = q.1 }

pub returns-in_default : goal.returns-in_default
returns-in_default c = reach_stuck c.loop-gone.invariant.0 c.loop-gone-test.true c.in_default.ensures.send_done

pub overflow_add-gone : goal.overflow_add-gone
overflow_add-gone c = omega (arith, c.in-Some.ensures.send_done.1.most, c.loop-gone-test.true)

pub loop-gone-smaller : goal.loop-gone-smaller
loop-gone-smaller c = let s = c.in-Some.ensures.send_done.1 in omega (arith, s.some, s.most, c.loop-gone-test.true)

pub loop-gone-preserved : goal.loop-gone-preserved
loop-gone-preserved c =
    let s = c.in-Some.ensures.send_done in
    (reach_next c.loop-gone.invariant.0 s.0 s.1, c.send.ensures.covers_2)

pub returns : goal.returns
returns c = reach_end c.loop-gone.invariant.0 c.loop-gone-test.false
