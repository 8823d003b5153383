-- `flow_files::flow_files` meets its contract. Assumes nothing.
use Rattle.flow_files.proofs.FlowLaws.{too_long, not_long}
use Rattle.flow_files.proofs.flow_files.Goals as goal

pub returns-then-network-gt65536 : goal.returns-then-network-gt65536
returns-then-network-gt65536 c = too_long _ _ _ c.if-network-gt65536.true c.print_refusal.ensures

pub returns : goal.returns
returns c = not_long _ _ _ c.if-network-gt65536.false c.print_with_table.ensures
