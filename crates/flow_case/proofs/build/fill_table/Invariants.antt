-- `flow_case::build::fill_table` meets its contract. Assumes nothing.
use Rattle.flow_case.specs.inner.Build.{entry_in, Filled}
use Rattle.flow_case.proofs.build.fill_table.Given as goal

abbrev pub invariant-loop-y : goal.invariant-loop-y
invariant-loop-y l = Filled (entry_in l.table l.ceiling l.most) l.y l.initial.entries l.entries
