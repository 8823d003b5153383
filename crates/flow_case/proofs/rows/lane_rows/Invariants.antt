-- `flow_case::rows::lane_rows` meets its contract. Assumes nothing.
use mathlib.Core.Path.{◌≡◌}
use Prim.Native.Nat.{◌+◌}
use lib.ListN.{length}
use Rattle.flow_problem.specs.inner.Reduce.{node_of}
use Rattle.flow_case.specs.inner.Build.{RowsAre, RowsAfter, lane_in}
use Rattle.flow_case.proofs.rows.lane_rows.Given as goal

abbrev pub invariant-loop-s : goal.invariant-loop-s
invariant-loop-s l =
    RowsAre 0 (λ s j. lane_in l.starts l.ends (node_of l.w l.v s + 1) j) l.s (length l.starts) l.to × (length l.to ≡ 2048) × RowsAfter 0 l.s (length l.starts) l.initial.to l.to
