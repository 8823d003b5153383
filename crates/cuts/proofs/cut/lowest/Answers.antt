-- `cuts::cut::lowest` meets its contract. Assumes nothing.
use Prim.Native.Nat.{◌+◌}
use native.Mathlib.Omega.{arith}
use mathlib.Core.Path.{◌≡◌}
use Rattle.cuts.proofs.CutSteps.{low_start, low_next}
use Rattle.cuts.proofs.cut.lowest.Goals as goal

pub loop-b-init : goal.loop-b-init
loop-b-init c = (omega arith, low_start)

pub overflow_add-at : goal.overflow_add-at
overflow_add-at c = omega (arith, c.requires.nodes, c.loop-b-test.true)

pub offset_bounds-weight-at : goal.offset_bounds-weight-at
offset_bounds-weight-at c = omega (arith, c.requires.nodes, c.loop-b-test.true)

pub bounds-weight-at : goal.bounds-weight-at
bounds-weight-at c = omega (arith, c.requires.nodes, c.loop-b-test.true)

pub overflow_add-low : goal.overflow_add-low
overflow_add-low c =
    omega (
      arith,
      c.requires.most c.loop-b.b,
      c.requires.weights (c.args.at + c.loop-b.b) (omega (arith, c.requires.nodes, c.loop-b-test.true)),
    )

pub counted-key-requires : goal.counted-key-requires
counted-key-requires c = (
  c.loop-b-test.true,
  omega (
    arith,
    c.requires.most c.loop-b.b,
    c.requires.weights (c.args.at + c.loop-b.b) (omega (arith, c.requires.nodes, c.loop-b-test.true)),
  ),
)

pub lower-far-requires : goal.lower-far-requires
lower-far-requires c =
    (omega (arith, c.counted-key.ensures.most), omega (arith, c.loop-b.invariant.1.most))

pub loop-b-preserved : goal.loop-b-preserved
loop-b-preserved c =
    (omega (arith, c.loop-b-test.true), low_next c.loop-b.invariant.1 c.counted-key.ensures c.lower-far.ensures.0 c.lower-far.ensures.1)

pub returns : goal.returns
returns c = let z : c.loop-b.b ≡ 32 = omega (arith, c.loop-b-test.false, c.loop-b.invariant.0) in rw (← z) c.loop-b.invariant.1
