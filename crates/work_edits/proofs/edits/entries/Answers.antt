-- `work_edits::edits::entries` meets its contract. Assumes nothing.
use native.Mathlib.Omega.{arith}
use Rattle.work_store.specs.Store.{entries_for, entries_in}
use Rattle.work_edits.proofs.edits.entries.Goals as goal

pub returns : goal.returns
unfolding entries_in entries_for
returns c = omega (arith, c.min.ensures)
