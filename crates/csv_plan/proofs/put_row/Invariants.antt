-- `csv_plan::put_row` meets its contract. Assumes nothing.
use Prim.Native.Nat.{◌+◌, ◌*◌, ◌-◌, ◌≤◌}
use Rattle.csv_print.specs.Text.{each, lane_text}
use Rattle.csv_print.specs.inner.Writing.{Written}
use Rattle.csv_plan.proofs.put_row.Given as goal

abbrev pub invariant-loop-j : goal.invariant-loop-j
invariant-loop-j l =
    (l.j ≤ l.n) × Written l.initial.out l.out l.at l.next (each l.j (λ k. lane_text l.costs l.plan l.i k (l.start + k))) (85 * l.j)

abbrev pub decreases-loop-j : goal.decreases-loop-j
decreases-loop-j l = l.n - l.j
