-- `csv_print::put_record` meets its contract. Assumes nothing.
use Rattle.csv_print.specs.Text.{record_text}
use Rattle.csv_print.proofs.DecimalTexts.{then}
use Rattle.csv_print.proofs.put_record.Goals as goal

pub returns : goal.returns
unfolding record_text
returns c =
    then c.put_field-second.ensures (then c.put_field-third.ensures c.put_pair.ensures)
