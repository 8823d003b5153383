-- `csv_print::column::put_line` meets its contract. Assumes nothing.
use Rattle.csv_print.specs.Text.{record_text}
use Rattle.csv_print.proofs.DecimalTexts.{then}
use Rattle.csv_print.proofs.column.put_line.Goals as goal

pub returns : goal.returns
unfolding record_text
returns c = then c.put_field-end.ensures c.put_byte.ensures
