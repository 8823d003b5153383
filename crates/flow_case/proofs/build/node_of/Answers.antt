-- `flow_case::build::node_of` meets its contract. Assumes nothing.
use Rattle.flow_case.proofs.FillLoops.{node_is}
use Rattle.flow_case.proofs.build.node_of.Goals as goal

pub returns : goal.returns
returns c = node_is _ _ _ _ _ _ c.swapped-place.ensures c.swapped-t.ensures c.swapped.ensures
