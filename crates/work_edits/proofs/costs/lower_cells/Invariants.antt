-- `work_edits::costs::lower_cells` meets its contract. The invariant: the first k cells are written. Assumes nothing.
use mathlib.Core.List.{map}
use Rattle.work_store.specs.Store.{cost_in}
use Rattle.work_store.proofs.RangeCopies.{Filling}
use Rattle.work_edits.proofs.costs.lower_cells.Given as goal

abbrev pub invariant-loop-k : goal.invariant-loop-k
invariant-loop-k l = Filling (map cost_in l.source) 0 l.k l.initial.to l.to
