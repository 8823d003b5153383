-- `flow_case::rows::fill_haves` meets its contract. Assumes nothing.
use Rattle.flow_case.specs.inner.Build.{Put, have_in}
use Rattle.flow_case.proofs.rows.fill_haves.Given as goal

abbrev pub invariant-loop-i : goal.invariant-loop-i
invariant-loop-i l = Put 0 (have_in l.ends l.ceilings l.gives) 0 l.i l.initial.haves l.haves
