-- `flow_case::build::fill_demands` meets its contract. Assumes nothing.
use native.Mathlib.Omega.{arith}
use Rattle.flow_case.specs.inner.Build.{want_in}
use Rattle.flow_case.proofs.FillLoops.{filled_none, filled_next}
use Rattle.flow_case.proofs.build.fill_demands.Goals as goal

pub loop-j-init : goal.loop-j-init
loop-j-init c = let a = c.args in filled_none (want_in a.ceilings.now a.named) a.demands.now

pub bounds-demands-j : goal.bounds-demands-j
bounds-demands-j c = omega (arith, c.loop-j.invariant.long, c.requires, c.loop-j-test.true)

pub loop-j-preserved : goal.loop-j-preserved
loop-j-preserved c =
    let a = c.args in
    filled_next (want_in a.ceilings.now a.named) a.demands.now c.loop-j.j _ _
    (omega (arith, c.requires, c.loop-j-test.true)) c.at_named.ensures c.loop-j.invariant
