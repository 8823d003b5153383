-- `flow_case::build::source_of` meets its contract. Assumes nothing.
use Rattle.flow_case.proofs.FillLoops.{source_is}
use Rattle.flow_case.proofs.build.source_of.Goals as goal

pub returns : goal.returns
returns c = source_is _ _ _ _ _ _ c.swapped-place.ensures c.swapped-t.ensures c.swapped.ensures
