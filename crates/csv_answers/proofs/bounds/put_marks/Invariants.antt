-- `csv_answers::bounds::put_marks` meets its contract. Assumes nothing.
use mathlib.Core.Path.{◌≡◌}
use mathlib.Core.List.{[], ◌∷◌}
use lib.IntN.{pos}
use Prim.Native.Nat.{◌+◌, ◌*◌, ◌-◌, ◌≤◌}
use lib.ListN.{length, get_or}
use Rattle.csv_print.specs.Text.{each, record_text}
use Rattle.csv_print.specs.inner.Writing.{Written}
use Rattle.csv_answers.proofs.bounds.put_marks.Given as goal

abbrev pub invariant-loop-j : goal.invariant-loop-j
invariant-loop-j l =
    (l.j ≤ length l.marks) × (l.j-end ≡ length l.marks) × Written l.initial.out l.out l.at l.next (each l.j (λ k. record_text (pos (l.first + k) ∷ pos (get_or l.marks k 0) ∷ []))) (43 * l.j)

abbrev pub decreases-loop-j : goal.decreases-loop-j
decreases-loop-j l = l.j-end - l.j
