-- `cuts::cut::lows` meets its contract. Assumes nothing.
use Prim.Native.Nat.{◌+◌, ◌*◌, ◌≤◌, ◌<◌}
use native.Mathlib.Omega.{arith}
use lib.Count.{count_trailing_zeros}
use mathlib.Core.Path.{◌≡◌}
use Rattle.cuts.proofs.PartBits.{own_low, rest_less}
use Rattle.cuts.proofs.CutSteps.{lows_start, lows_next, lows_end}
use Rattle.cuts.specs.inner.Cut.{has}
use Rattle.cuts.proofs.cut.lows.Goals.{In-loop-left}
use Rattle.cuts.proofs.cut.lows.Goals as goal

-- the bit that a pass takes is in the part
mine : (c : In-loop-left) → has c.args.part (count_trailing_zeros 64 c.loop-left.left) ≡ 1
mine c = own_low 64 c.args.part c.loop-left.invariant.0.own c.loop-left-test.true c.loop-left.invariant.1

-- its cells and its node
within : (c : In-loop-left) → count_trailing_zeros 64 c.loop-left.left * c.args.stride + c.args.first + 32 ≤ 2048
within c = c.requires.within (count_trailing_zeros 64 c.loop-left.left) (mine c)

node : (c : In-loop-left) → c.args.at + count_trailing_zeros 64 c.loop-left.left < 96
node c = c.requires.nodes (count_trailing_zeros 64 c.loop-left.left) (mine c)

pub loop-left-init : goal.loop-left-init
loop-left-init c = (lows_start, omega (arith, c.ranges.part))

pub overflow_cast-b : goal.overflow_cast-b
overflow_cast-b c = omega (arith, node (goal.at.overflow_cast-b c).In-loop-left)

pub overflow_mul-b : goal.overflow_mul-b
overflow_mul-b c = omega (arith, within (goal.at.overflow_mul-b c).In-loop-left)

pub overflow_add-b : goal.overflow_add-b
overflow_add-b c = omega (arith, within (goal.at.overflow_add-b c).In-loop-left)

pub overflow_add-at : goal.overflow_add-at
overflow_add-at c = omega (arith, node (goal.at.overflow_add-at c).In-loop-left)

pub offset_bounds-weight-at : goal.offset_bounds-weight-at
offset_bounds-weight-at c = omega (arith, node (goal.at.offset_bounds-weight-at c).In-loop-left)

pub bounds-weight-at : goal.bounds-weight-at
bounds-weight-at c = omega (arith, node (goal.at.bounds-weight-at c).In-loop-left)

pub fold-requires : goal.fold-requires
fold-requires c =
    let s = c.requires in
    let b = count_trailing_zeros 64 c.loop-left.left in
    record { within = within (goal.at.fold-requires c).In-loop-left; base_most = s.most (c.args.at + b) (node (goal.at.fold-requires c).In-loop-left); costs = λ i l. s.costs b i (mine (goal.at.fold-requires c).In-loop-left) l; long = c.loop-left.invariant.0.long; most = c.loop-left.invariant.0.most }

pub overflow_sub-left : goal.overflow_sub-left
overflow_sub-left c = omega (arith, c.loop-left-test.true)

pub loop-left-smaller : goal.loop-left-smaller
loop-left-smaller c = omega (arith, rest_less c.loop-left-test.true)

pub loop-left-preserved : goal.loop-left-preserved
loop-left-preserved c =
    (lows_next c.loop-left.invariant.0 c.loop-left-test.true c.loop-left.invariant.1 c.fold.ensures, omega (arith, rest_less c.loop-left-test.true, c.loop-left.invariant.1))

pub returns : goal.returns
returns c = lows_end c.loop-left.invariant.0 c.loop-left-test.false
