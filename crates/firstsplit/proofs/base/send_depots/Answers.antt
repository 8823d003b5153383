-- `firstsplit::base::send_depots` meets its contract. Assumes nothing.
use mathlib.Core.Path.{refl}
use Prim.Native.Nat.{ℕ, ◌-◌}
use native.Mathlib.Omega.{arith}
use lib.ListN.{get_or-replicate}
use Rattle.firstsplit.proofs.FirstSplit.{depot_stuck, depots_sent}
use Rattle.firstsplit.proofs.DepotShipments.{base_start, base_next}
use Rattle.firstsplit.proofs.base.send_depots.Goals as goal

pub overflow_sub-k-end : goal.overflow_sub-k-end
overflow_sub-k-end c = omega (arith, c.requires.le_m)

pub loop-k-init : goal.loop-k-init
loop-k-init c = (omega arith, base_start c.requires.base_ready refl refl (λ v h. get_or-replicate {A = ℕ} 96 v 800000000 0 h), c.requires.covers)

pub overflow_sub-i : goal.overflow_sub-i
overflow_sub-i c = omega (arith, c.loop-k-test.true)

pub overflow_sub-i-in-loop-k : goal.overflow_sub-i-in-loop-k
overflow_sub-i-in-loop-k c = omega (arith, c.loop-k-test.true)

pub offset_bounds-supply-i : goal.offset_bounds-supply-i
offset_bounds-supply-i c = omega (arith, c.requires.base_ready.sources)

pub bounds-supply-i : goal.bounds-supply-i
bounds-supply-i c = omega (arith, c.requires.base_ready.sources, c.loop-k-test.true)

pub ship-left-requires : goal.ship-left-requires
ship-left-requires c =
    let inv = c.loop-k.invariant in record { start_lt_m = omega (arith, c.loop-k-test.true); stocked = inv.1.stocked; short = λ j h. omega (arith, inv.1.cols j h, c.requires.asked j h); covers = inv.2 }

pub returns-then-left-gt0 : goal.returns-then-left-gt0
returns-then-left-gt0 c =
    let inv = c.loop-k.invariant.1 in
    let l = c.loop-k-test.true in record { depots_done = depot_stuck inv (omega arith) (omega arith) c.ship-left.ensures.ship_done c.if-left-gt0.true; covers_2 = c.ship-left.ensures.covers_2 }

pub loop-k-preserved : goal.loop-k-preserved
loop-k-preserved c =
    let inv = c.loop-k.invariant.1 in
    let l = c.loop-k-test.true in
    let s = c.ship-left.ensures.ship_done in
    (omega arith, base_next inv (omega arith) s.shipped c.if-left-gt0.false, c.ship-left.ensures.covers_2)

pub returns : goal.returns
returns c =
    let inv = c.loop-k.invariant in
    let two = c.requires.le_m in record { depots_done = depots_sent two (omega (arith, inv.0, c.loop-k-test.false)) inv.1; covers_2 = inv.2 }
