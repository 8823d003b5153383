-- The network whose numbers lie in separate slices: what is given and taken at each node, and for each arc start, end, ceiling and cost. Assumes
-- nothing.
use Rattle.std.specs.Prelude.{List, ℕ, ℤ, pos, length, get_or}
use Rattle.std.proofs.Math.IntN.{sub_ℕ}
use Rattle.dimacs.specs.Arc.{arc}
use Rattle.flow_problem.specs.Network.{Network, cells}

abbrev pub net_of : List ℕ → List ℕ → List ℕ → List ℕ → List ℕ → List ℤ → Network
net_of gives takes starts ends ceilings costs = record {
  nodes = length gives;
  supplies = cells (length gives) (λ i. sub_ℕ (get_or gives i 0) (get_or takes i 0));
  arcs = cells (length starts) (λ j. arc (get_or starts j 0) (get_or ends j 0) (get_or ceilings j 0) (get_or costs j (pos 0)));
}
