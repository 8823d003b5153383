-- `spanningtree::tree::Tree::toggle_part` meets its contract. What hangs from what stays. Assumes nothing.
use Rattle.std.proofs.Common.{◌≡◌}
use Rattle.spanningtree.proofs.tree.Tree.toggle_part.Given as goal

abbrev pub invariant-loop : goal.invariant-loop
invariant-loop g l = l.self.parent ≡ l.fn.self.parent
