-- `flow_case::rows::fill_flow` meets its contract. Assumes nothing.
use Rattle.flow_case.specs.inner.Build.{Put, flow_in}
use Rattle.flow_case.proofs.rows.fill_flow.Given as goal

abbrev pub invariant-loop-j : goal.invariant-loop-j
invariant-loop-j l = Put 0 (flow_in l.plan l.starts l.w l.v l.named l.carried) 0 l.j l.initial.flow l.flow
