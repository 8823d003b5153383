-- `cuts::cut::change` meets its contract. Assumes nothing.
use Prim.Native.Nat.{◌+◌, ◌≤◌, ◌<◌}
use native.Mathlib.Omega.{arith}
use lib.ListN.{get_or}
use lib.Count.{count_trailing_zeros}
use Rattle.cuts.proofs.PartBits.{rest_less}
use Rattle.cuts.proofs.CutSteps.{change_start, change_in, change_old, change_next, change_end}
use Rattle.cuts.proofs.cut.change.Goals.{In-loop-left}
use Rattle.cuts.proofs.cut.change.Goals as goal

-- the node that a pass takes
node : (c : In-loop-left) → c.args.first + count_trailing_zeros 64 c.loop-left.left < 96
node c = c.requires.within (count_trailing_zeros 64 c.loop-left.left) (change_in c.loop-left.invariant.0 c.loop-left-test.true c.loop-left.invariant.1)

-- what it falls by is no more than it has
enough : (c : In-loop-left)
    → c.args.down ≤ get_or c.loop-left.pot (c.args.first + count_trailing_zeros 64 c.loop-left.left) 0
enough c =
    let i = c.loop-left.invariant in
    omega (arith, change_old i.0 c.loop-left-test.true i.1, c.requires.low _ (change_in i.0 c.loop-left-test.true i.1))

pub loop-left-init : goal.loop-left-init
loop-left-init c = (change_start c.requires.long, omega (arith, c.ranges.part))

pub overflow_cast-v : goal.overflow_cast-v
overflow_cast-v c = omega (arith, node (goal.at.overflow_cast-v c).In-loop-left)

pub overflow_add-v : goal.overflow_add-v
overflow_add-v c = omega (arith, node (goal.at.overflow_add-v c).In-loop-left)

pub offset_bounds-pot-v : goal.offset_bounds-pot-v
offset_bounds-pot-v c = omega (arith, node (goal.at.offset_bounds-pot-v c).In-loop-left)

pub bounds-pot-v : goal.bounds-pot-v
bounds-pot-v c = omega (arith, node (goal.at.bounds-pot-v c).In-loop-left)

pub overflow_add-pot : goal.overflow_add-pot
overflow_add-pot c =
    omega (arith, change_old c.loop-left.invariant.0 c.loop-left-test.true c.loop-left.invariant.1, c.requires.top (c.args.first + count_trailing_zeros 64 c.loop-left.left) (node (goal.at.overflow_add-pot c).In-loop-left))

pub overflow_sub-pot : goal.overflow_sub-pot
overflow_sub-pot c = omega (arith, enough (goal.at.overflow_sub-pot c).In-loop-left)

pub offset_bounds-pot-v-in-loop-left : goal.offset_bounds-pot-v-in-loop-left
offset_bounds-pot-v-in-loop-left c = omega (arith, node (goal.at.offset_bounds-pot-v-in-loop-left c).In-loop-left)

pub bounds-pot-v-in-loop-left : goal.bounds-pot-v-in-loop-left
bounds-pot-v-in-loop-left c = omega (arith, node (goal.at.bounds-pot-v-in-loop-left c).In-loop-left)

pub overflow_sub-left : goal.overflow_sub-left
overflow_sub-left c = omega (arith, c.loop-left-test.true)

pub loop-left-smaller : goal.loop-left-smaller
loop-left-smaller c = omega (arith, rest_less c.loop-left-test.true)

pub loop-left-preserved : goal.loop-left-preserved
loop-left-preserved c =
    (change_next c.loop-left.invariant.0 c.loop-left-test.true c.loop-left.invariant.1 _ (node (goal.at.loop-left-preserved c).In-loop-left) (omega (arith, enough (goal.at.loop-left-preserved c).In-loop-left)), omega (arith, rest_less c.loop-left-test.true, c.loop-left.invariant.1))

pub returns : goal.returns
returns c = change_end c.loop-left.invariant.0 c.loop-left-test.false
