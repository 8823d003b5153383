-- `spanningtree::tree::Tree::separate` meets its contract. What hangs from what stays. Assumes nothing.
use Rattle.std.proofs.Common.{◌≡◌}
use Rattle.spanningtree.proofs.tree.Tree.separate.Given as goal

abbrev pub invariant-loop-j : goal.invariant-loop-j
invariant-loop-j l = l.self.parent ≡ l.fn.self.parent
