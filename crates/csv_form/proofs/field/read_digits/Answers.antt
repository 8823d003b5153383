-- `csv_form::field::read_digits` meets its contract. Assumes nothing.
use mathlib.Core.Path.{◌≡◌, refl, sym, ◌∙◌}
use Prim.Native.Nat.{◌+◌, ◌-◌, ◌≤◌, ◌<◌}
use native.Mathlib.Omega.{arith}
use lib.ListN.{get_or}
use Rattle.csv_form.specs.Form.{mark}
use Rattle.csv_form.specs.inner.Reader.{digit_or10}
use Rattle.csv_form.proofs.Digits.{none_yet, one_more, fits}
use Rattle.csv_form.proofs.FieldAnswers.{digits_stop, digits_spent, digits_step}
use Rattle.csv_form.proofs.ByteMarks.{none_above, some_is, some_small}
use Rattle.csv_form.proofs.field.read_digits.Goals.{In-Some}
use Rattle.csv_form.proofs.field.read_digits.Goals as goal

pub loop-next-init : goal.loop-next-init
loop-next-init c = let e : c.args.at + 10 - c.args.at ≡ 10 = omega arith in rw e (none_yet _ _ c.requires, refl)

pub returns-in_default : goal.returns-in_default
returns-in_default c =
    sym (c.loop-next.invariant.1 ∙ digits_stop _ _ _ _ (none_above _ (sym c.in_default.is ∙ c.digit_at.ensures)))

-- the digit that was found
found : (c : In-Some) → digit_or10 (mark (get_or c.args.s.now c.loop-next.next 0)) ≡ c.in-Some.d
found c = some_is _ _ (sym c.in-Some.is ∙ c.digit_at.ensures)

small : (c : In-Some) → c.in-Some.d ≤ 9
small c = some_small _ _ (sym c.in-Some.is ∙ c.digit_at.ensures)

pub overflow_add-value : goal.overflow_add-value
overflow_add-value c = omega (arith, fits _ _ _ _ _ c.loop-next.invariant.0 _ (small c) (omega (arith, c.loop-next-test.true)))

pub loop-next-preserved : goal.loop-next-preserved
loop-next-preserved c =
    let e : c.args.at + 10 - (c.loop-next.next + 1) ≡ c.args.at + 10 - c.loop-next.next - 1 = omega arith in
    let few : digit_or10 (mark (get_or c.args.s.now c.loop-next.next 0)) ≤ 9 = omega (arith, found c, small c) in
    let more : 0 < c.args.at + 10 - c.loop-next.next = omega (arith, c.loop-next-test.true) in
    rw (e, sym (found c)) (one_more _ _ _ _ _ c.loop-next.invariant.0 few more, c.loop-next.invariant.1 ∙ digits_step _ _ _ _ more few)

pub returns : goal.returns
returns c =
    let e : c.loop-next.next ≡ c.args.at + 10 = omega (arith, c.loop-next-test.false, c.loop-next.auto.next-end) in
    rw (sym e) (sym (c.loop-next.invariant.1 ∙ digits_spent _ _ _ _ (omega (arith, c.loop-next-test.false))))
