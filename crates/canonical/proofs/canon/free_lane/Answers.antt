-- `canonical::canon::free_lane` meets its contract. Assumes nothing.
use mathlib.Core.Path.{refl}
use Prim.Native.Nat.{◌+◌, ◌*◌, ◌%◌, ◌^◌}
use native.Mathlib.Omega.{arith}
use lib.ListN.{get_or, set}
use lib.Bits.{bit_or}
use Rattle.canonical.specs.inner.Canonize.{Doors}
use Rattle.canonical.proofs.LaneStores.{freed_moved, freed_empty, cover_brought, door_open}
use Rattle.canonical.proofs.canon.free_lane.Goals.{Start}
use Rattle.canonical.proofs.canon.free_lane.Goals as goal

-- the lane is noted with its terminal
noted : (s : Start) → let a = s.args in let k = a.i * 64 + a.j in
    Doors a.lanes.now.m a.lanes.now.n (set a.free.now.cap k (get_or a.lanes.now.cap.now k 0)) (set a.free.now.doors a.j (bit_or (get_or a.free.now.doors a.j 0) ((1 * 2 ^ a.i) % 2 ^ 32)))
noted s = door_open s.requires.reach_at s.requires.clear _ s.requires.doors

pub returns-then-amount-gt0 : goal.returns-then-amount-gt0
returns-then-amount-gt0 c = record { lane_freed = freed_moved c.requires.reach_at c.requires.clear; covers_2 = cover_brought c.requires.reach_at c.requires.clear _ c.requires.covers c.serve.ensures; doors_2 = noted (goal.at.returns-then-amount-gt0 c).Start; same_ways = refl }

pub returns-else-amount-gt0 : goal.returns-else-amount-gt0
returns-else-amount-gt0 c = record { lane_freed = freed_empty c.requires.reach_at c.requires.clear (omega (arith, c.if-amount-gt0.false)); covers_2 = c.requires.covers; doors_2 = noted (goal.at.returns-else-amount-gt0 c).Start; same_ways = refl }
