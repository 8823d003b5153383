-- `engine_arrays::work::wanted` meets its contract. Assumes nothing.
use Rattle.engine_arrays.proofs.CellCopies.{copied_last}
use Rattle.engine_arrays.proofs.work.wanted.Goals as goal

pub returns : goal.returns
returns c = copied_last c.copy_into.ensures
