-- `csv_answers::bounds::put_totals` meets its contract. Assumes nothing.
use Rattle.csv_print.specs.Text.{record_text}
use Rattle.csv_print.proofs.DecimalTexts.{then}
use mir.Syntax.{w64}
use mir.ValLaws.{to_z-of_z}
use Rattle.csv_answers.proofs.bounds.put_totals.Goals as goal

pub returns : goal.returns
unfolding record_text
returns c =
    then (rw (to_z-of_z w64 c.args.a c.ranges.a) at c.put_signed_field-second.ensures)
    (then (rw (to_z-of_z w64 c.args.b c.ranges.b) at c.put_signed_field-end.ensures) c.put_byte.ensures)
