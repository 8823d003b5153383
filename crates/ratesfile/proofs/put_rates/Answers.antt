-- `ratesfile::put_rates` meets its contract. Assumes nothing.
use mathlib.Core.Path.{sym}
use native.Mathlib.Omega.{arith}
use lib.Seq.{length-take-le}
use Rattle.ratesfile.proofs.Records.{none_above, column_of_rates}
use Rattle.ratesfile.proofs.put_rates.Goals as goal

pub returns-then-most-gt4000 : goal.returns-then-most-gt4000
returns-then-most-gt4000 c = none_above _ c.if-most-gt4000.true

pub slice_bounds-put_column-end : goal.slice_bounds-put_column-end
slice_bounds-put_column-end c = sym (length-take-le _ _ (omega (arith, c.rates-all.ensures.long)))

pub returns : goal.returns
returns c =
    column_of_rates _ c.if-most-gt4000.false c.rates-all.ensures c.put_column.ensures
