-- `flow_case::build::counted` meets its contract. Assumes nothing.
use Rattle.flow_case.proofs.FillLoops.{at_yes, at_no}
use Rattle.flow_case.proofs.build.counted.Goals as goal

pub returns-then-end-id : goal.returns-then-end-id
returns-then-end-id c = at_yes _ _ _ c.if-end-id.true

pub returns-else-end-id : goal.returns-else-end-id
returns-else-end-id c = at_no _ _ _ c.if-end-id.false
