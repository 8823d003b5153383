-- `csv_table::table::scan` meets its contract. Assumes nothing.
use Prim.Native.Nat.{◌-◌}
use lib.ListN.{length}
use Rattle.csv_table.proofs.FieldLoop.{Along}
use Rattle.csv_table.proofs.table.scan.Given as goal

abbrev pub invariant-loop-f : goal.invariant-loop-f
invariant-loop-f l = Along l.kind l.s l.initial.cells l.cells l.t l.at

abbrev pub decreases-loop-f : goal.decreases-loop-f
decreases-loop-f l = length l.s - l.at
