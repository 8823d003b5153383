-- `csv_form::field::read_digits` meets its contract. Assumes nothing.
use mathlib.Core.Path.{◌≡◌}
use Prim.Native.Nat.{◌+◌, ◌-◌}
use Rattle.csv_form.specs.inner.Reader.{digits_from}
use Rattle.csv_form.proofs.Digits.{DigitsSoFar}
use Rattle.csv_form.proofs.field.read_digits.Given as goal

abbrev pub invariant-loop-next : goal.invariant-loop-next
invariant-loop-next l =
    DigitsSoFar l.s l.at l.value l.next (l.at + 10 - l.next) × (digits_from 10 l.s 0 l.at ≡ digits_from (l.at + 10 - l.next) l.s l.value l.next)
