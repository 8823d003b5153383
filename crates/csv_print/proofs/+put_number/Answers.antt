-- `csv_print::put_number` meets its contract. Assumes nothing.
use native.Mathlib.Omega.{arith}
use Rattle.csv_print.proofs.DecimalTexts.{written_small, written_large}
use Rattle.csv_print.proofs.+put_number.Goals as goal

pub returns-then-n-lt10 : goal.returns-then-n-lt10
returns-then-n-lt10 t c = written_small _ c.if-n-lt10.true c.put_byte.ensures

pub returns : goal.returns
returns t c = written_large _ c.if-n-lt10.false c.ranges.n.fits c.put_number-next.ensures c.put_byte-2.ensures
