-- `cuts::cut::least_out` meets its contract. Assumes nothing.
use Prim.Native.Nat.{◌+◌, ◌^◌, ◌<◌}
use native.Mathlib.Omega.{arith}
use lib.Count.{count_trailing_zeros}
use Rattle.cuts.proofs.PartBits.{low_place, rest_less}
use Rattle.cuts.proofs.CutSteps.{out_start, out_in, out_next, out_end}
use Rattle.cuts.proofs.cut.least_out.Goals.{In-loop-left}
use Rattle.cuts.proofs.cut.least_out.Goals as goal

-- the bit that a turn takes
fits : (c : In-loop-left) → c.loop-left.left < 2 ^ 64
fits c = omega (arith, c.loop-left.invariant.1)

place : (c : In-loop-left) → count_trailing_zeros 64 c.loop-left.left < 32
place c = low_place 64 c.loop-left-test.true (fits c) 32 c.loop-left.invariant.1

pub overflow_add-level : goal.overflow_add-level
overflow_add-level c = omega (arith, c.requires.terminal)

pub offset_bounds-pot-j : goal.offset_bounds-pot-j
offset_bounds-pot-j c = omega (arith, c.requires.terminal)

pub bounds-pot-j : goal.bounds-pot-j
bounds-pot-j c = omega (arith, c.requires.terminal)

pub overflow_add-level-2 : goal.overflow_add-level-2
overflow_add-level-2 c = let s = c.requires in omega (arith, s.high (32 + c.args.j) (omega (arith, s.terminal)))

pub loop-left-init : goal.loop-left-init
loop-left-init c = (out_start, c.requires.few)

pub overflow_cast-i : goal.overflow_cast-i
overflow_cast-i c = omega (arith, place (goal.at.overflow_cast-i c).In-loop-left)

pub overflow_mul-k : goal.overflow_mul-k
overflow_mul-k c = omega (arith, place (goal.at.overflow_mul-k c).In-loop-left)

pub overflow_add-k : goal.overflow_add-k
overflow_add-k c = omega (arith, place (goal.at.overflow_add-k c).In-loop-left, c.requires.terminal)

pub offset_bounds-cost-k : goal.offset_bounds-cost-k
offset_bounds-cost-k c = omega (arith, place (goal.at.offset_bounds-cost-k c).In-loop-left, c.requires.terminal)

pub bounds-cost-k : goal.bounds-cost-k
bounds-cost-k c = omega (arith, place (goal.at.bounds-cost-k c).In-loop-left, c.requires.terminal)

pub offset_bounds-pot-i : goal.offset_bounds-pot-i
offset_bounds-pot-i c = omega (arith, place (goal.at.offset_bounds-pot-i c).In-loop-left)

pub bounds-pot-i : goal.bounds-pot-i
bounds-pot-i c = omega (arith, place (goal.at.bounds-pot-i c).In-loop-left)

pub overflow_add-reach : goal.overflow_add-reach
overflow_add-reach c =
    (let s = c.requires in
    let i = count_trailing_zeros 64 c.loop-left.left in
    omega (arith, s.costs i (out_in c.loop-left.invariant.0 c.loop-left-test.true (fits (goal.at.overflow_add-reach c).In-loop-left)), s.high i (omega (arith, place (goal.at.overflow_add-reach c).In-loop-left))))

pub offset_bounds-x-k : goal.offset_bounds-x-k
offset_bounds-x-k c =
    omega (arith, place (goal.at.offset_bounds-x-k c).In-loop-left, c.requires.terminal)

pub bounds-x-k : goal.bounds-x-k
bounds-x-k c =
    omega (arith, place (goal.at.bounds-x-k c).In-loop-left, c.requires.terminal)

pub overflow_sub-level : goal.overflow_sub-level
overflow_sub-level c =
    (let s = c.requires in
    let i = count_trailing_zeros 64 c.loop-left.left in
    omega (arith, s.costs i (out_in c.loop-left.invariant.0 c.loop-left-test.true (fits (goal.at.overflow_sub-level c).In-loop-left)), s.high i (omega (arith, place (goal.at.overflow_sub-level c).In-loop-left))))

pub overflow_sub-left : goal.overflow_sub-left
overflow_sub-left c = omega (arith, c.loop-left-test.true)

pub loop-left-smaller : goal.loop-left-smaller
loop-left-smaller c = omega (arith, rest_less c.loop-left-test.true)

pub loop-left-preserved : goal.loop-left-preserved
loop-left-preserved c = (
  out_next c.loop-left.invariant.0 c.loop-left-test.true (fits (goal.at.loop-left-preserved c).In-loop-left) c.nearer-far.ensures
      (let s = c.requires in
      let i = count_trailing_zeros 64 c.loop-left.left in
      omega (arith, s.costs i (out_in c.loop-left.invariant.0 c.loop-left-test.true (fits (goal.at.loop-left-preserved c).In-loop-left)), s.high i (omega (arith, place (goal.at.loop-left-preserved c).In-loop-left)))),
  omega (arith, rest_less c.loop-left-test.true, c.loop-left.invariant.1),
)

pub returns : goal.returns
returns c = out_end c.loop-left.invariant.0 c.loop-left-test.false
