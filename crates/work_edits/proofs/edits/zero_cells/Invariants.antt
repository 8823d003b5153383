-- `work_edits::edits::zero_cells` meets its contract. Assumes nothing.
use lib.ListN.{replicate}
use Rattle.work_store.proofs.RangeCopies.{Filling}
use Rattle.work_edits.proofs.edits.zero_cells.Given as goal

abbrev pub invariant-loop-i : goal.invariant-loop-i
invariant-loop-i l = Filling (replicate l.count 0) l.from l.i l.initial.store l.store
