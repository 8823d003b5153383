-- `work_edits::costs::raise_cells` meets its contract. The invariant: the first k cells are written. Assumes nothing.
use mathlib.Core.List.{map}
use Rattle.problem.specs.Range.{raised_of}
use Rattle.work_store.proofs.RangeCopies.{Filling}
use Rattle.work_edits.proofs.costs.raise_cells.Given as goal

abbrev pub invariant-loop-k : goal.invariant-loop-k
invariant-loop-k l = Filling (map raised_of l.source) l.at l.k l.initial.store l.store
