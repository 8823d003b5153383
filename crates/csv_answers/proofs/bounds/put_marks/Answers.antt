-- `csv_answers::bounds::put_marks` meets its contract. Assumes nothing.
use mathlib.Core.Path.{refl}
use native.Mathlib.Omega.{arith}
use Rattle.csv_answers.specs.Bounds.{marks_text}
use Rattle.csv_print.proofs.DecimalTexts.{each_start, each_next, each_end, written_length}
use Rattle.csv_answers.proofs.bounds.put_marks.Goals as goal

pub loop-j-init : goal.loop-j-init
loop-j-init c = (omega arith, refl, each_start _ 43 _ _)

pub overflow_add-first : goal.overflow_add-first
overflow_add-first c =
    omega (arith, c.requires.1.start, c.requires.1.few, c.loop-j-test.true, c.loop-j.invariant.1)

pub offset_bounds-marks-j : goal.offset_bounds-marks-j
offset_bounds-marks-j c = omega (arith, c.requires.1.few, c.loop-j-test.true, c.loop-j.invariant.1)

pub bounds-marks-j : goal.bounds-marks-j
bounds-marks-j c = omega (arith, c.loop-j-test.true, c.loop-j.invariant.1)

pub put_pair-next-requires : goal.put_pair-next-requires
put_pair-next-requires c =
    omega (arith, c.requires.0, c.requires.1.few, c.loop-j.invariant.0, c.loop-j.invariant.2.ends, c.loop-j.invariant.2.short)

pub loop-j-preserved : goal.loop-j-preserved
loop-j-preserved c =
    let l = c.loop-j in
    (omega (arith, c.loop-j-test.true, l.invariant.1), l.invariant.1, each_next _ 43 _ l.invariant.2 c.put_pair-next.ensures)

pub shape_of-out : goal.shape_of-out
shape_of-out c = written_length c.loop-j.invariant.2

pub returns : goal.returns
unfolding marks_text
returns c = each_end _ 43 _ _ c.loop-j.invariant.0 (omega (arith, c.loop-j.invariant.1, c.loop-j-test.false)) c.loop-j.invariant.2
