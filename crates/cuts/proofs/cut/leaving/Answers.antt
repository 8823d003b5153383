-- `cuts::cut::leaving` meets its contract. Assumes nothing.
use Prim.Native.Nat.{◌^◌, ◌<◌}
use native.Mathlib.Omega.{arith}
use lib.Count.{count_trailing_zeros}
use lib.Pow.{pow_mono}
use Rattle.residual.specs.inner.Network.{get}
use Rattle.residual.proofs.Bits.{bit_place}
use Rattle.cuts.proofs.PartBits.{low_place, rest_less}
use Rattle.cuts.proofs.CutSteps.{and_in, and_few, exit_start, exit_next, exit_end}
use Rattle.cuts.proofs.cut.leaving.Goals.{In-loop-left}
use Rattle.cuts.proofs.cut.leaving.Goals as goal

fits : (c : In-loop-left) → c.loop-left.left < 2 ^ 64
fits c = omega (arith, c.loop-left.invariant.1, pow_mono c.requires.exit_ready.terminals)

-- the bit that a turn takes
place : (c : In-loop-left) → count_trailing_zeros 64 c.loop-left.left < c.args.lanes.now.n
place c = low_place 64 c.loop-left-test.true (fits c) c.args.lanes.now.n c.loop-left.invariant.1

pub others-left-requires : goal.others-left-requires
others-left-requires c = c.requires.exit_ready.terminals

pub loop-left-init : goal.loop-left-init
loop-left-init c = (exit_start c.others-left.ensures, c.others-left.ensures.within)

pub overflow_cast-j : goal.overflow_cast-j
overflow_cast-j c = omega (arith, place (goal.at.overflow_cast-j c).In-loop-left, c.requires.exit_ready.terminals)

pub offset_bounds-serves-j : goal.offset_bounds-serves-j
offset_bounds-serves-j c = omega (arith, place (goal.at.offset_bounds-serves-j c).In-loop-left, c.requires.exit_ready.terminals)

pub bounds-serves-j : goal.bounds-serves-j
bounds-serves-j c = omega (arith, place (goal.at.bounds-serves-j c).In-loop-left, c.requires.exit_ready.terminals)

pub overflow_cast-from : goal.overflow_cast-from
overflow_cast-from c =
    let w = get c.args.serves.now (count_trailing_zeros 64 c.loop-left.left) in
    omega (arith, and_few {k = 2 ^ 32} w c.args.inside (omega (arith, c.requires.inside_bound, pow_mono c.requires.exit_ready.sources)))

pub least_out-far-requires : goal.least_out-far-requires
least_out-far-requires c =
    let s = c.requires in
    let j = count_trailing_zeros 64 c.loop-left.left in
    let w = get c.args.serves.now j in
    record {
      terminal = omega (arith, place (goal.at.least_out-far-requires c).In-loop-left, s.exit_ready.terminals);
      few = and_few {k = 2 ^ 32} w c.args.inside (omega (arith, s.inside_bound, pow_mono s.exit_ready.sources));
      costs = λ i e. s.exit_ready.costs i j (bit_place c.args.lanes.now.m c.args.inside i s.inside_bound (and_in w c.args.inside i e)) (place (goal.at.least_out-far-requires c).In-loop-left);
      high = s.exit_ready.high;
    }

pub overflow_sub-left : goal.overflow_sub-left
overflow_sub-left c = omega (arith, c.loop-left-test.true)

pub loop-left-smaller : goal.loop-left-smaller
loop-left-smaller c = omega (arith, rest_less c.loop-left-test.true)

pub loop-left-preserved : goal.loop-left-preserved
loop-left-preserved c =
    (exit_next c.loop-left.invariant.0 c.loop-left-test.true (fits (goal.at.loop-left-preserved c).In-loop-left) c.least_out-far.ensures, omega (arith, rest_less c.loop-left-test.true, c.loop-left.invariant.1))

pub returns : goal.returns
returns c = exit_end c.loop-left.invariant.0 c.loop-left-test.false
