-- `csv_print::put_signed` meets its contract. Assumes nothing.
use Rattle.csv_print.proofs.PrintedSigns.{written_minus, written_plain}
use mathlib.Core.Path.{◌∙◌, ap}
use lib.IntN.{nat_abs}
use mir.Syntax.{w64}
use mir.ValLaws.{to_z-of_z}
use Rattle.csv_print.proofs.put_signed.Goals as goal

pub returns-then-v-lt0 : goal.returns-then-v-lt0
returns-then-v-lt0 c =
    written_minus c.args.v c.ranges.v _ (c.magnitude-size.ensures ∙ ap nat_abs (to_z-of_z w64 _ c.ranges.v))
    c.if-v-lt0.true c.put_byte-next.ensures c.put_number.ensures

pub returns : goal.returns
returns c =
    written_plain c.args.v c.ranges.v _ (c.magnitude-size.ensures ∙ ap nat_abs (to_z-of_z w64 _ c.ranges.v)) c.if-v-lt0.false c.put_number-2.ensures
