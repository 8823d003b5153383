-- `csv_form::field::number_at` meets its contract. Assumes nothing.
use mathlib.Core.Path.{sym, ◌∙◌}
use native.Mathlib.Omega.{arith}
use Prim.Native.Nat.{◌+◌}
use lib.ListN.{get_or}
use borrow.Author.Rules.{rules}
use Rattle.csv_form.specs.Form.{mark}
use Rattle.csv_form.specs.inner.Reader.{digit_or10}
use Rattle.csv_form.proofs.ByteMarks.{inside, none_above, some_is}
use Rattle.csv_form.proofs.Fields.{number_none, number_lead, number_barred_zero, number_single}
use Rattle.csv_form.proofs.field.number_at.Goals as goal

pub returns-in-None : goal.returns-in-None
returns-in-None c =
    number_none c.args.minus _ (digit_or10 (mark (get_or c.args.s.now (c.args.at + 1) 0)))
    (none_above _ (sym c.in-None.is ∙ c.digit_at.ensures))

pub returns-then-minus : goal.returns-then-minus
returns-then-minus c =
    number_barred_zero c.args.minus _ _ (sym c.in-Some-eq0.is ∙ c.digit_at.ensures) c.in-Some-eq0.field-0-test
    (digit_or10 (mark (get_or c.args.s.now (c.args.at + 1) 0))) c.if-minus.true

pub overflow_add-at : goal.overflow_add-at
overflow_add-at c =
    let h = inside c.args.s.now c.args.at (omega (arith, some_is _ _ (sym c.in-Some-eq0.is ∙ c.digit_at.ensures), c.in-Some-eq0.field-0-test)) in search (rules, h)

pub returns-else-minus : goal.returns-else-minus
returns-else-minus c =
    number_single c.args.minus _ _ (sym c.in-Some-eq0.is ∙ c.digit_at.ensures) c.in-Some-eq0.field-0-test _ c.digit_at-in-Some-eq0.result c.is_none.result
    c.if-minus.false c.digit_at-in-Some-eq0.ensures c.is_none.ensures

pub returns-in-Some : goal.returns-in-Some
returns-in-Some c =
    number_lead c.args.minus _ _ (digit_or10 (mark (get_or c.args.s.now (c.args.at + 1) 0)))
    (sym c.in-Some.is ∙ c.digit_at.ensures) c.in-Some.field-0-test.1
