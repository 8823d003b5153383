-- `csv_table::store::copy_fields` meets its contract. Assumes nothing.
use mathlib.Core.List.{map}
use lib.ListN.{take, drop}
use Rattle.csv_print.proofs.Stores.{Storing}
use Rattle.csv_table.proofs.store.copy_fields.Given as goal

abbrev pub invariant-loop-j : goal.invariant-loop-j
invariant-loop-j g l = Storing (map g.T.FromField.of (take l.count (drop l.start l.values))) l.initial.cells l.cells l.at l.j
