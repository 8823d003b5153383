-- `csv_answers::flow::put_total` meets its contract. Assumes nothing.
use Rattle.csv_print.specs.Text.{record_text}
use Rattle.csv_print.proofs.DecimalTexts.{then}
use mir.Syntax.{w64}
use mir.ValLaws.{to_z-of_z}
use Rattle.csv_answers.proofs.flow.put_total.Goals as goal

pub returns : goal.returns
unfolding record_text
returns c =
    then (rw (to_z-of_z w64 c.args.total c.ranges.total) at c.put_signed_field-end.ensures) c.put_byte.ensures
