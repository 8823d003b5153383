-- `cuts::cut::closed` meets its contract. Assumes nothing.
use Prim.Native.Nat.{◌<◌}
use native.Mathlib.Omega.{arith}
use mathlib.Core.Bool.{true≢false}
use mathlib.Core.Path.{sym}
use lib.Count.{count_trailing_zeros}
use Rattle.cuts.proofs.PartBits.{low_place, rest_less, word_fits}
use Rattle.cuts.proofs.CutSteps.{gather_start, gather_next, gather_end}
use Rattle.cuts.proofs.cut.closed.Goals.{In-loop-left}
use Rattle.cuts.proofs.cut.closed.Goals as goal

-- the bit that a pass takes
place : (c : In-loop-left) → count_trailing_zeros 64 c.loop-left.left < 64
place c = low_place 64 c.loop-left-test.true c.loop-left.invariant.1 64 c.loop-left.invariant.1

pub loop-left-init : goal.loop-left-init
loop-left-init c = (gather_start c.others-left.ensures, word_fits c.requires c.others-left.ensures.within)

pub overflow_cast-j : goal.overflow_cast-j
overflow_cast-j c = omega (arith, place (goal.at.overflow_cast-j c).In-loop-left)

pub offset_bounds-serves-j : goal.offset_bounds-serves-j
offset_bounds-serves-j c = omega (arith, place (goal.at.offset_bounds-serves-j c).In-loop-left)

pub bounds-serves-j : goal.bounds-serves-j
bounds-serves-j c = omega (arith, place (goal.at.bounds-serves-j c).In-loop-left)

pub overflow_sub-left : goal.overflow_sub-left
overflow_sub-left c = omega (arith, c.loop-left-test.true)

pub loop-left-smaller : goal.loop-left-smaller
loop-left-smaller c = omega (arith, rest_less c.loop-left-test.true)

pub loop-left-preserved : goal.loop-left-preserved
loop-left-preserved c = (
  gather_next c.loop-left.invariant.0 c.loop-left-test.true c.loop-left.invariant.1,
  omega (arith, rest_less c.loop-left-test.true, c.loop-left.invariant.1),
)

pub returns-then-out-rows-eq0 : goal.returns-then-out-rows-eq0
returns-then-out-rows-eq0 c = λ e. gather_end c.loop-left.invariant.0 c.loop-left-test.false c.if-out-rows-eq0.true

pub returns : goal.returns
returns c = λ e. absurd (true≢false (sym e))
