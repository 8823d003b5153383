-- `csv_answers::bounds::put_fitting_marks` meets its contract. Assumes nothing.
use Rattle.csv_answers.specs.Bounds.{bounds_text, totals_header, splits_header}
use Rattle.csv_print.proofs.DecimalTexts.{then}
use mir.Syntax.{w64}
use mir.ValLaws.{to_z-of_z}
use Rattle.csv_answers.proofs.bounds.put_fitting_marks.Goals as goal

pub returns : goal.returns
unfolding bounds_text totals_header splits_header
returns c =
    then (then (then c.put_bytes-second.ensures
    (rw (to_z-of_z w64 c.args.smallest c.ranges.smallest, to_z-of_z w64 c.args.largest c.ranges.largest) at c.put_totals-third.ensures))
    c.put_bytes-records.ensures) c.put_marks.ensures
