-- `cuts::cut::fold` meets its contract. Assumes nothing.
use native.Mathlib.Omega.{arith}
use mathlib.Core.Path.{◌≡◌}
use Rattle.cuts.proofs.CutSteps.{fold_start, fold_next}
use Rattle.cuts.proofs.cut.fold.Goals as goal

pub loop-i-init : goal.loop-i-init
loop-i-init c = (omega arith, fold_start c.requires.long)

pub overflow_add-table : goal.overflow_add-table
overflow_add-table c = let s = c.requires in omega (arith, s.costs c.loop-i.i c.loop-i-test.true, s.base_most)

pub lower-requires : goal.lower-requires
lower-requires c =
    let s = c.requires in
    (omega (arith, s.costs c.loop-i.i c.loop-i-test.true, s.base_most), omega (arith, c.loop-i.invariant.1.less c.loop-i.i, s.most c.loop-i.i))

pub loop-i-preserved : goal.loop-i-preserved
loop-i-preserved c =
    (omega (arith, c.loop-i-test.true), fold_next c.loop-i.invariant.1 c.loop-i-test.true c.lower.ensures.0 c.lower.ensures.1)

pub returns : goal.returns
returns c = let z : c.loop-i.i ≡ 32 = omega (arith, c.loop-i-test.false, c.loop-i.invariant.0) in rw (← z) c.loop-i.invariant.1
