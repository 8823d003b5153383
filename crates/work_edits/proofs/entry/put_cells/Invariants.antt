-- `work_edits::entry::put_cells` meets its contract. The invariant: the first k cells are copied. Assumes nothing.
use Rattle.work_store.proofs.RangeCopies.{Filling}
use Rattle.work_edits.proofs.entry.put_cells.Given as goal

abbrev pub invariant-loop-k : goal.invariant-loop-k
invariant-loop-k l = Filling l.source l.at l.k l.initial.store l.store
