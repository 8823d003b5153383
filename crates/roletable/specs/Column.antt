-- The column of a deed in the table of roles. Assumes nothing.
use Rattle.std.specs.Prelude.{ℕ}
use Rattle.roletable.specs.declared.table.Deed.{Deed}
use Rattle.roletable.specs.declared.table.Deed.TheVariants.{EditAmount, EditCost, EditEntry, SeeTariff, SeeTable, Plan, SetMark, GoBack}

abbrev pub column_of : Deed → ℕ
column_of EditAmount = 1
column_of EditCost = 2
column_of EditEntry = 3
column_of SeeTariff = 4
column_of SeeTable = 5
column_of Plan = 6
column_of SetMark = 7
column_of GoBack = 8
