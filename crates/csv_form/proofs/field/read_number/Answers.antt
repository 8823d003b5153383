-- `csv_form::field::read_number` meets its contract. Assumes nothing.
use mathlib.Core.Path.{refl, sym, ap, ◌∙◌}
use Rattle.csv_form.specs.inner.Reader.{number_of, valued}
use Rattle.csv_form.proofs.field.read_number.Goals as goal

pub returns-then-not-number_at : goal.returns-then-not-number_at
unfolding number_of
returns-then-not-number_at c = rw (sym c.number_at.ensures ∙ c.if-not-number_at.true) refl

pub returns : goal.returns
unfolding number_of
returns c = rw (sym c.number_at.ensures ∙ c.if-not-number_at.false) (ap (valued _) c.read_digits-value.ensures)
