-- `dimacs::line::read_arc` meets its contract. Assumes nothing.
use Rattle.dimacs.proofs.LineParts.{signed_stored, signed_small, arc_1, arc_2, arc_3, arc_4, arc_5, arc_long, arc_read}
use Rattle.dimacs.proofs.line.read_arc.Goals as goal

pub returns-in_err-start : goal.returns-in_err-start
returns-in_err-start c =
    rw c.from_residual.ensures
    (arc_1 c.read_field.ensures c.in_err-start.was)

pub returns-in_err-end : goal.returns-in_err-end
returns-in_err-end c =
    rw c.from_residual-in_err-end.ensures
    (arc_2 c.read_field.ensures _ _ c.in_ok-start.was c.read_field-2.ensures c.in_err-end.was)

pub returns-in_err-low : goal.returns-in_err-low
returns-in_err-low c =
    rw c.from_residual-in_err-low.ensures
    (arc_3 c.read_field.ensures _ _ c.in_ok-start.was c.read_field-2.ensures _ _ c.in_ok-end.was c.read_field-3.ensures c.in_err-low.was)

pub returns-in_err-ceiling : goal.returns-in_err-ceiling
returns-in_err-ceiling c =
    rw c.from_residual-in_err-ceiling.ensures
    (arc_4 c.read_field.ensures _ _ c.in_ok-start.was c.read_field-2.ensures _ _ c.in_ok-end.was c.read_field-3.ensures _ _ c.in_ok-low.was c.read_field-4.ensures c.in_err-ceiling.was)

pub returns-in_err-cost : goal.returns-in_err-cost
returns-in_err-cost c =
    rw c.from_residual-in_err-cost.ensures
    (arc_5 c.read_field.ensures _ _ c.in_ok-start.was c.read_field-2.ensures _ _ c.in_ok-end.was c.read_field-3.ensures _ _ c.in_ok-low.was c.read_field-4.ensures _ _ c.in_ok-ceiling.was c.read_signed_field.ensures c.in_err-cost.was)

pub returns-then-cost-s : goal.returns-then-cost-s
returns-then-cost-s c =
    arc_long c.read_field.ensures _ _ c.in_ok-start.was c.read_field-2.ensures _ _ c.in_ok-end.was c.read_field-3.ensures _ _ c.in_ok-low.was c.read_field-4.ensures _ _ c.in_ok-ceiling.was
    c.read_signed_field.ensures _ _ c.in_ok-cost.was c.if-cost-s.true

pub returns : goal.returns
returns c =
    rw (signed_stored c.in_ok-cost.cost.value (signed_small c.read_signed_field.ensures _ _ c.in_ok-cost.was))
    (arc_read c.read_field.ensures _ _ c.in_ok-start.was c.read_field-2.ensures _ _ c.in_ok-end.was c.read_field-3.ensures _ _ c.in_ok-low.was c.read_field-4.ensures _ _ c.in_ok-ceiling.was
    c.read_signed_field.ensures _ _ c.in_ok-cost.was c.if-cost-s.false)
