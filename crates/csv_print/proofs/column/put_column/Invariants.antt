-- `csv_print::column::put_column` meets its contract. The invariant: the first k records are written. Assumes nothing.
use Prim.Native.Nat.{◌*◌, ◌-◌, ◌≤◌}
use Rattle.csv_print.specs.Text.{each}
use Rattle.csv_print.specs.inner.Writing.{Written}
use Rattle.csv_print.proofs.Columns.{line}
use Rattle.csv_print.proofs.column.put_column.Given as goal

abbrev pub invariant-loop-k : goal.invariant-loop-k
invariant-loop-k l = (l.k ≤ l.count) × Written l.initial.out l.out 0 l.next (each l.k (line l.values)) (22 * l.k)

abbrev pub decreases-loop-k : goal.decreases-loop-k
decreases-loop-k l = l.count - l.k
