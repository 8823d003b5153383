-- `flow_case::rows::cost_rows` meets its contract. Assumes nothing.
use mathlib.Core.Path.{◌≡◌}
use Prim.Native.Nat.{◌+◌}
use lib.ListN.{length}
use lib.IntN.{pos}
use Rattle.flow_problem.specs.inner.Reduce.{node_of}
use Rattle.flow_case.specs.inner.Build.{RowsAre, RowsAfter, cost_in}
use Rattle.flow_case.proofs.rows.cost_rows.Given as goal

abbrev pub invariant-loop-s : goal.invariant-loop-s
invariant-loop-s l =
    RowsAre (pos 0) (λ s j. cost_in l.starts l.costs (node_of l.w l.v s + 1) j) l.s (length l.starts) l.to × (length l.to ≡ 2048) × RowsAfter (pos 0) l.s (length l.starts) l.initial.to l.to
