-- `csv_print::put_signed_field` meets its contract. Assumes nothing.
use Rattle.csv_print.specs.Text.{field_text}
use Rattle.csv_print.proofs.DecimalTexts.{then}
use mir.Syntax.{w64}
use mir.ValLaws.{to_z-of_z}
use Rattle.csv_print.proofs.put_signed_field.Goals as goal

pub returns : goal.returns
unfolding field_text
returns c =
    then (rw (to_z-of_z w64 c.args.v c.ranges.v) at c.put_signed-next.ensures) c.put_byte.ensures
