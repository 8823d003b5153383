-- `canonical::canon::part_row` meets its contract. Assumes nothing.
use Prim.Native.Nat.{◌-◌}
use native.Mathlib.Omega.{arith}
use lib.Bits.{and_le_r}
use Rattle.canonical.proofs.LaneStores.{part_priced, free_start, free_at, free_clear, free_next, free_end}
use Rattle.canonical.proofs.canon.part_row.Goals as goal

pub tight_lanes-all-requires : goal.tight_lanes-all-requires
tight_lanes-all-requires c = record { i_lt_m = c.requires.i_lt_m; part_ready = part_priced c.requires.part_ready }

pub offset_bounds-free-i : goal.offset_bounds-free-i
offset_bounds-free-i c = let s = c.requires in omega (arith, s.i_lt_m, s.part_ready.sources)

pub bounds-free-i : goal.bounds-free-i
bounds-free-i c = let s = c.requires in omega (arith, s.i_lt_m, s.part_ready.sources)

pub loop-rest-init : goal.loop-rest-init
loop-rest-init c =
    let s = c.requires in
    free_start s.part_ready.terminals s.part_ready.sources s.i_lt_m c.tight_lanes-all.ensures s.parted_to

pub overflow_cast-j : goal.overflow_cast-j
overflow_cast-j c =
    let s = c.requires in
    let a = free_at s.part_ready.terminals s.part_ready.sources s.i_lt_m c.tight_lanes-all.ensures c.loop-rest.invariant c.loop-rest-test.true in
    omega (arith, a.terminal, a.terminals)

pub free_lane-requires : goal.free_lane-requires
free_lane-requires c =
    let s = c.requires in
    let t = c.tight_lanes-all.ensures in
    let q = c.loop-rest.invariant in
    let r = s.part_ready in record { reach_at = free_at r.terminals r.sources s.i_lt_m t q c.loop-rest-test.true; clear = free_clear r.terminals r.sources s.i_lt_m t q c.loop-rest-test.true; covers = q.parted.covers; doors = q.parted.doors }

pub overflow_sub-rest : goal.overflow_sub-rest
overflow_sub-rest c = omega (arith, c.loop-rest-test.true)

pub loop-rest-smaller : goal.loop-rest-smaller
loop-rest-smaller c =
    omega (arith, and_le_r c.loop-rest.rest (c.loop-rest.rest - 1), c.loop-rest-test.true)

pub loop-rest-preserved : goal.loop-rest-preserved
loop-rest-preserved c =
    let s = c.requires in
    let r = s.part_ready in
    let d = c.free_lane.ensures in
    rw d.same_ways (free_next r.terminals r.sources s.i_lt_m c.tight_lanes-all.ensures c.loop-rest.invariant c.loop-rest-test.true d.lane_freed d.covers_2 d.doors_2)

pub returns : goal.returns
returns c =
    let s = c.requires in
    let r = s.part_ready in
    let q = c.loop-rest.invariant in record { parted_to_2 = free_end r.terminals r.sources s.i_lt_m c.tight_lanes-all.ensures q (omega (arith, c.loop-rest-test.false)); kept = q.kept }
