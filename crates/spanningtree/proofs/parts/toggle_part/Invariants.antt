-- `spanningtree::parts::toggle_part` meets its contract. What hangs from what stays. Assumes nothing.
use Rattle.std.proofs.Common.{◌≡◌}
use Rattle.spanningtree.proofs.parts.toggle_part.Given as goal

abbrev pub invariant-loop : goal.invariant-loop
invariant-loop l = l.tree.parent ≡ l.fn.tree.parent
