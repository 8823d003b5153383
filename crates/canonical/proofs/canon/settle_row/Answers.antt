-- `canonical::canon::settle_row` meets its contract. Assumes nothing.
use Prim.Native.Nat.{◌-◌}
use native.Mathlib.Omega.{arith}
use lib.Bits.{and_le_r}
use Rattle.canonical.proofs.LaneStores.{row_start, row_terminal, row_next, row_end, row_supplied}
use Rattle.canonical.proofs.canon.settle_row.Goals as goal

pub offset_bounds-free-i : goal.offset_bounds-free-i
offset_bounds-free-i c = omega (arith, c.requires.i_lt_m, c.requires.fact.sources)

pub bounds-free-i : goal.bounds-free-i
bounds-free-i c = omega (arith, c.requires.i_lt_m, c.requires.fact.sources)

pub loop-rest-init : goal.loop-rest-init
loop-rest-init c = row_start c.requires.fact c.requires.supplied

pub overflow_cast-j : goal.overflow_cast-j
overflow_cast-j c = let s = c.requires in omega (arith, row_terminal s.i_lt_m c.loop-rest.invariant c.loop-rest-test.true, s.fact.terminals)

pub settle_lane-requires : goal.settle_lane-requires
settle_lane-requires c =
    let s = c.requires in let q = c.loop-rest.invariant in record { i_lt_m = (s.i_lt_m, row_terminal s.i_lt_m q c.loop-rest-test.true); supplied = q.supplied; fact = q.state }

pub overflow_sub-rest : goal.overflow_sub-rest
overflow_sub-rest c = omega (arith, c.loop-rest-test.true)

pub offset_bounds-free-i-in-loop-rest : goal.offset_bounds-free-i-in-loop-rest
offset_bounds-free-i-in-loop-rest c = let s = c.requires in omega (arith, s.i_lt_m, s.fact.sources)

pub bounds-free-i-in-loop-rest : goal.bounds-free-i-in-loop-rest
bounds-free-i-in-loop-rest c = let s = c.requires in omega (arith, s.i_lt_m, s.fact.sources)

pub loop-rest-smaller : goal.loop-rest-smaller
loop-rest-smaller c =
    omega (arith, and_le_r c.loop-rest.rest (c.loop-rest.rest - 1), c.loop-rest-test.true)

pub loop-rest-preserved : goal.loop-rest-preserved
loop-rest-preserved c =
    let s = c.requires in let d = c.settle_lane.ensures in
    rw d.same_ways (row_next s.i_lt_m c.loop-rest.invariant c.loop-rest-test.true d.lane_settled d.fact_2 d.supplied_2)

pub returns : goal.returns
returns c =
    let q = c.loop-rest.invariant in let s = c.requires in record { onward = row_end s.i_lt_m q (omega (arith, c.loop-rest-test.false)); fact_2 = q.state; supplied_2 = row_supplied s.i_lt_m q (omega (arith, c.loop-rest-test.false)) }
