-- `flow_case::build::swapped` meets its contract. Assumes nothing.
use Rattle.flow_case.proofs.FillLoops.{swap_a, swap_b, swap_neither}
use Rattle.flow_case.proofs.build.swapped.Goals as goal

pub returns-then-i-a : goal.returns-then-i-a
returns-then-i-a c = swap_a _ _ _ c.if-i-a.true

pub returns-then-i-b : goal.returns-then-i-b
returns-then-i-b c = swap_b _ _ _ c.if-i-a.false c.if-i-b.true

pub returns : goal.returns
returns c = swap_neither _ _ _ c.if-i-a.false c.if-i-b.false
