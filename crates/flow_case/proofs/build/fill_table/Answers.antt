-- `flow_case::build::fill_table` meets its contract. Assumes nothing.
use native.Mathlib.Omega.{arith}
use Rattle.flow_case.specs.inner.Build.{entry_in}
use Rattle.flow_case.proofs.FillLoops.{filled_none, filled_next}
use Rattle.flow_case.proofs.build.fill_table.Goals as goal

pub loop-y-init : goal.loop-y-init
loop-y-init c = let a = c.args in filled_none (entry_in a.table.now a.ceiling a.most) a.entries.now

pub bounds-entries-y : goal.bounds-entries-y
bounds-entries-y c = omega (arith, c.loop-y-test.true, c.requires.most_in_bounds, c.loop-y.invariant.long)

pub loop-y-preserved : goal.loop-y-preserved
loop-y-preserved c =
    let a = c.args in
    filled_next (entry_in a.table.now a.ceiling a.most) a.entries.now c.loop-y.y _ _
    (omega (arith, c.requires.most_in_bounds, c.loop-y-test.true)) c.moved_entry.ensures c.loop-y.invariant
