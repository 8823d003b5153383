-- `flow_case::rows::costs_into` meets its contract. Assumes nothing.
use lib.IntN.{pos}
use Rattle.flow_case.specs.inner.Build.{Put, cost_in}
use Rattle.flow_case.proofs.rows.costs_into.Given as goal

abbrev pub invariant-loop-j : goal.invariant-loop-j
invariant-loop-j l = Put (pos 0) (cost_in l.starts l.costs l.id) l.at l.j l.initial.to l.to
