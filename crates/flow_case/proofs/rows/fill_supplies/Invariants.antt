-- `flow_case::rows::fill_supplies` meets its contract. Assumes nothing.
use Rattle.flow_case.specs.inner.Build.{Put, stock_in}
use Rattle.flow_case.proofs.rows.fill_supplies.Given as goal

abbrev pub invariant-loop-s : goal.invariant-loop-s
invariant-loop-s l = Put 0 (stock_in l.haves l.takes l.w l.v) 0 l.s l.initial.supplies l.supplies
