-- `dimacs::line::read_node` meets its contract. Assumes nothing.
use Rattle.dimacs.proofs.LineParts.{signed_stored, signed_small, node_no_id, node_no_supply, node_long, node_read}
use Rattle.dimacs.proofs.line.read_node.Goals as goal

pub returns-in_err-id : goal.returns-in_err-id
returns-in_err-id c = rw c.from_residual.ensures (node_no_id c.read_field.ensures c.in_err-id.was)

pub returns-in_err-supply : goal.returns-in_err-supply
returns-in_err-supply c =
    rw c.from_residual-in_err-supply.ensures (node_no_supply c.read_field.ensures _ _ c.in_ok-id.was c.read_signed_field.ensures c.in_err-supply.was)

pub returns-then-supply-s : goal.returns-then-supply-s
returns-then-supply-s c =
    node_long c.read_field.ensures _ _ c.in_ok-id.was c.read_signed_field.ensures _ _ c.in_ok-supply.was c.if-supply-s.true

pub returns : goal.returns
returns c =
    rw (signed_stored c.in_ok-supply.supply.value (signed_small c.read_signed_field.ensures _ _ c.in_ok-supply.was))
    (node_read c.read_field.ensures _ _ c.in_ok-id.was c.read_signed_field.ensures _ _ c.in_ok-supply.was c.if-supply-s.false)
