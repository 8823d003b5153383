-- `csv_form::field::minus_at` meets its contract. Assumes nothing.
use Rattle.csv_form.proofs.ByteMarks.{no_minus, minus_byte}
use Rattle.csv_form.specs.declared.Kind.TheVariants.{Tariff}
use Rattle.csv_form.proofs.field.minus_at.Goals as goal

pub returns-then-s-at : goal.returns-then-s-at
returns-then-s-at c = let a = c.args in rw c.in-Tariff.is (no_minus Tariff a.s.now a.at c.if-s-at.true)

pub returns-else-s-at : goal.returns-else-s-at
returns-else-s-at c = rw c.in-Tariff.is (minus_byte _)
