-- `flow_case::build::fill_demands` meets its contract. Assumes nothing.
use Rattle.flow_case.specs.inner.Build.{want_in, Filled}
use Rattle.flow_case.proofs.build.fill_demands.Given as goal

abbrev pub invariant-loop-j : goal.invariant-loop-j
invariant-loop-j l = Filled (want_in l.ceilings l.named) l.j l.initial.demands l.demands
