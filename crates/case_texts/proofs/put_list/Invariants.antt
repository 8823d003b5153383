-- `case_texts::put_list` meets its contract. Assumes nothing.
use Prim.Native.Nat.{◌*◌, ◌-◌, ◌≤◌}
use lib.IntN.{pos}
use lib.ListN.{get_or}
use Rattle.csv_print.specs.Text.{each, field_text}
use Rattle.csv_print.specs.inner.Writing.{Written}
use Rattle.case_texts.proofs.put_list.Given as goal

abbrev pub invariant-loop-j : goal.invariant-loop-j
invariant-loop-j l =
    (l.j ≤ l.n) × Written l.initial.out l.out l.at l.next (each l.j (λ k. field_text (pos (get_or l.demands k 0)) 44)) (21 * l.j)

abbrev pub decreases-loop-j : goal.decreases-loop-j
decreases-loop-j l = l.n - l.j
