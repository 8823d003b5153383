-- `incumbent::scan::four` meets its contract. Assumes nothing.
use native.Mathlib.Omega.{arith}
use Rattle.incumbent.proofs.FourSplits.{four_is}
use Rattle.incumbent.proofs.scan.four.Goals as goal

pub overflow_sub-v1 : goal.overflow_sub-v1
overflow_sub-v1 c = omega (arith, c.requires.above 1 (omega arith))

pub overflow_sub-v2 : goal.overflow_sub-v2
overflow_sub-v2 c = omega (arith, c.requires.above 2 (omega arith))

pub overflow_sub-v3 : goal.overflow_sub-v3
overflow_sub-v3 c = omega (arith, c.requires.above 2 (omega arith), c.requires.above 3 (omega arith))

pub overflow_sub-v4 : goal.overflow_sub-v4
overflow_sub-v4 c = let p = c.requires in omega (arith, p.above 2 (omega arith), p.above 3 (omega arith), p.above 4 (omega arith))

pub total_of-a-requires : goal.total_of-a-requires
total_of-a-requires c = let p = c.requires in (omega (arith, p.entries), omega (arith, p.room, p.small 1 (omega arith)))

pub total_of-b-requires : goal.total_of-b-requires
total_of-b-requires c = let p = c.requires in (omega (arith, p.entries), omega (arith, p.room, p.small 2 (omega arith)))

pub total_of-c-requires : goal.total_of-c-requires
total_of-c-requires c = let p = c.requires in (omega (arith, p.entries), omega (arith, p.room, p.small 3 (omega arith)))

pub total_of-d-requires : goal.total_of-d-requires
total_of-d-requires c = let p = c.requires in (omega (arith, p.entries), omega (arith, p.room, p.small 4 (omega arith)))

pub returns : goal.returns
returns c =
    four_is c.requires c.total_of-a.ensures
    c.total_of-b.ensures c.total_of-c.ensures
    c.total_of-d.ensures c.min.ensures c.min-2.ensures c.min-3.ensures
