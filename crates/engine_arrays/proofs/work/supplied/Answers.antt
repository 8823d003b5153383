-- `engine_arrays::work::supplied` meets its contract. Assumes nothing.
use Rattle.engine_arrays.proofs.CellCopies.{copied_first}
use Rattle.engine_arrays.proofs.work.supplied.Goals as goal

pub returns : goal.returns
returns c = copied_first c.copy_into.ensures
