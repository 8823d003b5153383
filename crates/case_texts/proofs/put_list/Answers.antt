-- `case_texts::put_list` meets its contract. Assumes nothing.
use native.Mathlib.Omega.{arith}
use Rattle.csv_print.proofs.DecimalTexts.{each_start, each_next, each_end, written_length}
use Rattle.case_texts.specs.Texts.{list_text}
use Rattle.case_texts.proofs.put_list.Goals as goal

pub loop-j-init : goal.loop-j-init
loop-j-init c = (omega arith, each_start _ 21 _ _)

pub offset_bounds-demands-j : goal.offset_bounds-demands-j
offset_bounds-demands-j c = omega (arith, c.requires.n_in_bounds)

pub bounds-demands-j : goal.bounds-demands-j
bounds-demands-j c = omega (arith, c.requires.n_in_bounds)

pub put_field-next-requires : goal.put_field-next-requires
put_field-next-requires c = omega (arith, c.requires.at_bound, c.loop-j.invariant)

pub loop-j-preserved : goal.loop-j-preserved
loop-j-preserved c =
    (omega (arith, c.loop-j-test.true), each_next _ 21 _ c.loop-j.invariant.1 c.put_field-next.ensures)

pub shape_of-out : goal.shape_of-out
shape_of-out c = written_length c.loop-j.invariant.1

pub returns : goal.returns
unfolding list_text
returns c = each_end _ 21 _ _ c.loop-j.invariant.0 c.loop-j-test.false c.loop-j.invariant.1
