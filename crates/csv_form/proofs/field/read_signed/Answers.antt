-- `csv_form::field::read_signed` meets its contract. Assumes nothing.
use mathlib.Core.Path.{sym, ◌∙◌}
use Rattle.csv_form.proofs.FieldAnswers.{signed_minus, signed_plain}
use native.Mathlib.Omega.{arith}
use Rattle.csv_form.proofs.ByteMarks.{minus_inside}
use Rattle.csv_form.proofs.field.read_signed.Goals as goal

pub read_number-requires : goal.read_number-requires
read_number-requires c = let a = c.args in omega (arith, minus_inside a.kind a.s.now a.at (sym c.minus_at.ensures ∙ c.if-minus_at.true))

pub returns-then-minus_at : goal.returns-then-minus_at
returns-then-minus_at c = let a = c.args in c.read_number.ensures ∙ signed_minus a.s.now a.kind a.at (sym c.minus_at.ensures ∙ c.if-minus_at.true)

pub returns : goal.returns
returns c = let a = c.args in c.read_number-2.ensures ∙ signed_plain a.s.now a.kind a.at (sym c.minus_at.ensures ∙ c.if-minus_at.false)
