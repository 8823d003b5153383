-- `csv_answers::flow::put_arcs` meets its contract. Assumes nothing.
use mathlib.Core.Path.{◌≡◌}
use Prim.Native.Nat.{◌*◌, ◌-◌, ◌≤◌}
use lib.ListN.{length}
use Rattle.csv_print.specs.Text.{each}
use Rattle.csv_answers.specs.Flow.{arc_text}
use Rattle.csv_print.specs.inner.Writing.{Written}
use Rattle.csv_answers.proofs.flow.put_arcs.Given as goal

abbrev pub invariant-loop-k : goal.invariant-loop-k
invariant-loop-k l =
    (l.k ≤ length l.starts) × (l.k-end ≡ length l.starts) × Written l.initial.out l.out l.at l.next (each l.k (arc_text l.named l.charge l.starts l.ends l.amounts l.costs)) (85 * l.k)

abbrev pub decreases-loop-k : goal.decreases-loop-k
decreases-loop-k l = l.k-end - l.k
