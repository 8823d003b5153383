-- `csv_form::field::with_sign` meets its contract. Assumes nothing.
use Rattle.csv_form.proofs.SignedNumbers.{minus_fits, minus_made, plain_made}
use Rattle.csv_form.proofs.field.with_sign.Goals as goal

pub overflow_sub-result : goal.overflow_sub-result
overflow_sub-result c = minus_fits c.args.value c.requires

pub returns-then-minus : goal.returns-then-minus
returns-then-minus c = minus_made c.args.value c.requires c.if-minus.true

pub returns : goal.returns
returns c = plain_made c.args.value c.requires c.if-minus.false
