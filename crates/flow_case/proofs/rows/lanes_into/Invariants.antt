-- `flow_case::rows::lanes_into` meets its contract. Assumes nothing.
use Rattle.flow_case.specs.inner.Build.{Put, lane_in}
use Rattle.flow_case.proofs.rows.lanes_into.Given as goal

abbrev pub invariant-loop-j : goal.invariant-loop-j
invariant-loop-j l = Put 0 (lane_in l.starts l.ends l.id) l.at l.j l.initial.to l.to
