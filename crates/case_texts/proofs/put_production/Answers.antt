-- `case_texts::put_production` meets its contract. Assumes nothing.
use native.Mathlib.Omega.{arith}
use Rattle.csv_print.proofs.Columns.{column_whole}
use Rattle.case_texts.proofs.put_production.Goals as goal

pub returns : goal.returns
returns c = column_whole _ (omega (arith, c.requires)) c.put_column.ensures
