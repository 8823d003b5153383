-- `dimacs::line::read_problem` meets its contract. Assumes nothing.
use Rattle.dimacs.proofs.LineParts.{problem_no_min, problem_no_nodes, problem_no_arcs, problem_long, problem_read}
use Rattle.dimacs.proofs.line.read_problem.Goals as goal

pub returns-in_err-first : goal.returns-in_err-first
returns-in_err-first c = rw c.from_residual.ensures (problem_no_min c.after_min.ensures c.in_err-first.was)

pub returns-in_err-nodes : goal.returns-in_err-nodes
returns-in_err-nodes c =
    rw c.from_residual-in_err-nodes.ensures (problem_no_nodes c.after_min.ensures _ c.in_ok-first.was c.read_field.ensures c.in_err-nodes.was)

pub returns-in_err-arcs : goal.returns-in_err-arcs
returns-in_err-arcs c =
    rw c.from_residual-in_err-arcs.ensures
    (problem_no_arcs c.after_min.ensures _ c.in_ok-first.was c.read_field.ensures _ _ c.in_ok-nodes.was c.read_field-2.ensures c.in_err-arcs.was)

pub returns-then-arcs-s : goal.returns-then-arcs-s
returns-then-arcs-s c =
    problem_long c.after_min.ensures _ c.in_ok-first.was c.read_field.ensures _ _ c.in_ok-nodes.was c.read_field-2.ensures _ _ c.in_ok-arcs.was c.if-arcs-s.true

pub returns : goal.returns
returns c =
    problem_read c.after_min.ensures _ c.in_ok-first.was c.read_field.ensures _ _ c.in_ok-nodes.was c.read_field-2.ensures _ _ c.in_ok-arcs.was c.if-arcs-s.false
