-- `csv_plan::put_lanes` meets its contract. Assumes nothing.
use mathlib.Core.Path.{◌≡◌}
use Prim.Native.Nat.{◌*◌, ◌-◌, ◌≤◌}
use Rattle.csv_print.specs.Text.{each, row_text}
use Rattle.csv_print.specs.inner.Writing.{Written}
use Rattle.csv_plan.proofs.put_lanes.Given as goal

abbrev pub invariant-loop-i : goal.invariant-loop-i
invariant-loop-i l =
    (l.i ≤ l.m) × (l.start ≡ l.i * l.n) × Written l.initial.out l.out l.at l.next (each l.i (λ k. row_text l.costs l.plan l.n k (k * l.n))) (5440 * l.i)

abbrev pub decreases-loop-i : goal.decreases-loop-i
decreases-loop-i l = l.m - l.i
