-- `spanningtree::entering::enter` is safe and ends. Assumes nothing.
use Rattle.std.proofs.Common.{◌-◌, arith}
use lib.Bits.{and_le_r}
use Rattle.spanningtree.proofs.entering.enter.Goals as goal

pub loop-left-init : goal.loop-left-init
loop-left-init c = omega (arith, c.ranges.cols)

pub loop-left-smaller : goal.loop-left-smaller
loop-left-smaller c =
    omega (arith, and_le_r c.loop-left.left (c.loop-left.left - 1), c.loop-left-test.true)

pub loop-left-preserved : goal.loop-left-preserved
loop-left-preserved c =
    omega (arith, and_le_r c.loop-left.left (c.loop-left.left - 1), c.loop-left-test.true, c.loop-left.invariant)
