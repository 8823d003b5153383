-- `firstsplit::base::ship` meets its contract. Assumes nothing.
use mathlib.Core.Path.{refl}
use Prim.Native.Nat.{◌<◌}
use native.Mathlib.Omega.{arith}
use Rattle.firstsplit.proofs.Shipment.{ship_start, send_ready, ship_next, ship_none}
use Rattle.firstsplit.proofs.base.ship.Goals as goal

pub loop-left-init : goal.loop-left-init
loop-left-init c = (ship_start c.args.start c.args.amount c.requires.stocked refl, c.requires.covers)

pub send-requires : goal.send-requires
send-requires c = record { send_ready = send_ready c.loop-left.invariant.0.stocked c.requires.start_lt_m c.loop-left-test.true; wanted = λ j h. omega (arith, c.loop-left.invariant.0.cols j h, c.requires.short j h); covers = c.loop-left.invariant.1 }

pub returns-in_default : goal.returns-in_default
returns-in_default c = record { ship_done = ship_none c.loop-left.invariant.0 c.in_default.ensures.send_done; covers_2 = c.send.ensures.covers_2 }

pub overflow_sub-room : goal.overflow_sub-room
overflow_sub-room c = omega (arith, c.in-Some.ensures.send_done.1.fits)

pub overflow_sub-left : goal.overflow_sub-left
overflow_sub-left c = omega (arith, c.in-Some.ensures.send_done.1.most)

pub loop-left-smaller : goal.loop-left-smaller
loop-left-smaller c = let s = c.in-Some.ensures.send_done.1 in omega (arith, s.some, s.most)

pub loop-left-preserved : goal.loop-left-preserved
loop-left-preserved c =
    let s = c.in-Some.ensures.send_done in
    (ship_next c.requires.start_lt_m c.loop-left.invariant.0 s.0 s.1, c.send.ensures.covers_2)

pub returns : goal.returns
returns c = record { ship_done = record { shipped = c.loop-left.invariant.0; none = λ h. absurd (omega (arith, c.loop-left-test.false)) }; covers_2 = c.loop-left.invariant.1 }
