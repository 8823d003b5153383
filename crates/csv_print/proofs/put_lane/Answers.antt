-- `csv_print::put_lane` meets its contract. Assumes nothing.
use Rattle.csv_print.specs.Text.{record_text}
use Rattle.csv_print.proofs.DecimalTexts.{then}
use mir.Syntax.{w64}
use mir.ValLaws.{to_z-of_z}
use Rattle.csv_print.proofs.put_lane.Goals as goal

pub returns : goal.returns
unfolding record_text
returns c =
    then c.put_field-second.ensures
    (then c.put_field-third.ensures
    (then c.put_field-fourth.ensures
    (then (rw (to_z-of_z w64 c.args.d c.ranges.d) at c.put_signed_field-end.ensures) c.put_byte.ensures)))
