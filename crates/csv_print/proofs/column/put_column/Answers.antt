-- `csv_print::column::put_column` meets its contract. The invariant: the first k records are written. Assumes nothing.
use Prim.Native.Nat.{◌-◌}
use native.Mathlib.Omega.{arith}
use Rattle.csv_print.proofs.DecimalTexts.{each_start, each_next, written_length}
use Rattle.csv_print.proofs.Columns.{column_none, column_end}
use Rattle.csv_print.proofs.column.put_column.Goals as goal

pub returns-then-count-gt4294967295 : goal.returns-then-count-gt4294967295
returns-then-count-gt4294967295 c = column_none _ _ c.if-count-gt4294967295.true

pub loop-k-init : goal.loop-k-init
loop-k-init c = (omega arith, each_start _ 22 _ _)

pub put_line-next-requires : goal.put_line-next-requires
put_line-next-requires c = let l = c.loop-k.invariant in omega (arith, l.0, l.1.ends, l.1.short)

pub loop-k-preserved : goal.loop-k-preserved
loop-k-preserved c = (omega arith, each_next _ 22 _ c.loop-k.invariant.1 c.put_line-next.ensures)

pub shape_of-out : goal.shape_of-out
shape_of-out c = written_length c.loop-k.invariant.1

pub returns : goal.returns
returns c = column_end _ _ c.if-count-gt4294967295.false c.loop-k.invariant.0 c.loop-k-test.false c.loop-k.invariant.1
