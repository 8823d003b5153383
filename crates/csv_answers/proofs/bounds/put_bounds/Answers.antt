-- `csv_answers::bounds::put_bounds` meets its contract. Assumes nothing.
use mathlib.Core.Path.{refl}
use native.Mathlib.Omega.{arith}
use mir.Syntax.{w64}
use mir.ValLaws.{to_z-of_z}
use Rattle.csv_answers.proofs.bounds.put_bounds.Goals as goal

pub returns-then-first-gt4000 : goal.returns-then-first-gt4000
returns-then-first-gt4000 c = record { text_written = λ f. absurd (omega (arith, f.start, c.if-first-gt4000.true)); nothing = λ d. (refl, refl) }

pub returns-then-marks-gt4001 : goal.returns-then-marks-gt4001
returns-then-marks-gt4001 c = record { text_written = λ f. absurd (omega (arith, f.few, c.if-marks-gt4001.true)); nothing = λ d. (refl, refl) }

pub put_fitting_marks-requires : goal.put_fitting_marks-requires
put_fitting_marks-requires c = record { start = c.if-first-gt4000.false; few = c.if-marks-gt4001.false }

pub returns : goal.returns
returns c =
    record {
      text_written = λ f.
          rw (to_z-of_z w64 c.args.smallest c.ranges.smallest, to_z-of_z w64 c.args.largest c.ranges.largest) at c.put_fitting_marks.ensures;
      nothing = λ d. absurd (d (record { start = c.if-first-gt4000.false; few = c.if-marks-gt4001.false }));
    }
