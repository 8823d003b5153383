-- `case_texts::put_sources` meets its contract. Assumes nothing.
use mathlib.Core.Path.{◌≡◌}
use Prim.Native.Nat.{◌*◌, ◌-◌, ◌≤◌}
use Rattle.csv_print.specs.Text.{each}
use Rattle.csv_print.specs.inner.Writing.{Written}
use Rattle.case_texts.specs.Texts.{source_text}
use Rattle.case_texts.proofs.put_sources.Given as goal

abbrev pub invariant-loop-i : goal.invariant-loop-i
invariant-loop-i l =
    (l.i ≤ l.m) × (l.start ≡ l.i * l.n) × Written l.initial.out l.out 0 l.next (each l.i (λ k. source_text l.costs l.supplies l.n (k * l.n) k)) (1366 * l.i)

abbrev pub decreases-loop-i : goal.decreases-loop-i
decreases-loop-i l = l.m - l.i
