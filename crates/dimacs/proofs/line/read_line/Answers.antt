-- `dimacs::line::read_line` meets its contract. Assumes nothing.
use Rattle.dimacs.proofs.LineParts.{line_comment, line_problem, line_node, line_arc, line_wrong}
use Rattle.dimacs.proofs.line.read_line.Goals as goal

pub returns-then-b-eq99 : goal.returns-then-b-eq99
returns-then-b-eq99 c = line_comment _ _ c.byte_at-b.ensures c.if-b-eq99.true

pub returns-then-b-eq112 : goal.returns-then-b-eq112
returns-then-b-eq112 c = line_problem _ _ c.byte_at-b.ensures _ c.if-b-eq112.true c.read_problem.ensures

pub returns-then-b-eq110 : goal.returns-then-b-eq110
returns-then-b-eq110 c = line_node _ _ c.byte_at-b.ensures _ c.if-b-eq110.true c.read_node.ensures

pub returns-then-b-eq97 : goal.returns-then-b-eq97
returns-then-b-eq97 c = line_arc _ _ c.byte_at-b.ensures _ c.if-b-eq97.true c.read_arc.ensures

pub returns : goal.returns
returns c =
    line_wrong _ _ c.byte_at-b.ensures c.if-b-eq99.false c.if-b-eq112.false c.if-b-eq110.false c.if-b-eq97.false
