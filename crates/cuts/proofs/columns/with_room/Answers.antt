-- `cuts::columns::with_room` meets its contract. Assumes nothing.
use mathlib.Core.Path.{◌≡◌}
use native.Mathlib.Omega.{arith}
use Rattle.cuts.proofs.TablesKept.{roomy_start, roomy_next}
use Rattle.cuts.proofs.columns.with_room.Goals as goal

pub loop-k-init : goal.loop-k-init
loop-k-init c = (omega arith, roomy_start c.requires)

pub loop-k-preserved : goal.loop-k-preserved
loop-k-preserved c =
    (omega (arith, c.loop-k-test.true), roomy_next c.loop-k-test.true c.fresh.ensures c.loop-k.invariant.1)

pub returns : goal.returns
returns c = let z : c.loop-k.k ≡ 2048 = omega (arith, c.loop-k.invariant.0, c.loop-k-test.false) in rw z at c.loop-k.invariant.1
