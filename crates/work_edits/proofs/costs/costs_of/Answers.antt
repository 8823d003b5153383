-- `work_edits::costs::costs_of` meets its contract. Assumes nothing.
use native.Mathlib.Omega.{arith}
use Rattle.work_store.proofs.CostLaws.{front_taken}
use Rattle.work_edits.proofs.costs.costs_of.Goals as goal

pub returns : goal.returns
returns c = (omega (arith, c.lower_cells.auto), front_taken c.args.source.now _ _ c.lower_cells.ensures, c.lower_cells.ensures)
