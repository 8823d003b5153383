-- `csv_print::put_field` meets its contract. Assumes nothing.
use Rattle.csv_print.specs.Text.{field_text, signed_text}
use Rattle.csv_print.proofs.DecimalTexts.{then}
use Rattle.csv_print.proofs.put_field.Goals as goal

pub returns : goal.returns
unfolding field_text signed_text
returns c = then c.put_number-next.ensures c.put_byte.ensures
