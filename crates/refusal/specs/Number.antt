-- The number of a cause, as the papers have it. Assumes nothing.
use Rattle.std.specs.Prelude.{ℕ}
use Rattle.refusal.specs.declared.Cause.{Cause}
use Rattle.refusal.specs.declared.Cause.TheVariants.{Sources, Terminals, Lengths, Amount, UnitCost, Entries, TooLittleWanted, TooMuchWanted, Entry, Room, File, Form, Fields}
use Rattle.refusal.specs.declared.Cause.TheVariants.{LeastRun, NoSuch, Unset, Ceiling, NoPlan, HighEntry, Line, Limits, Role, WideEntry, Text}

abbrev pub number_of : Cause → ℕ
number_of Sources = 1
number_of Terminals = 2
number_of Lengths = 3
number_of Amount = 4
number_of UnitCost = 5
number_of Entries = 6
number_of TooLittleWanted = 7
number_of TooMuchWanted = 8
number_of Entry = 9
number_of Room = 11
number_of File = 20
number_of Form = 21
number_of Fields = 22
number_of LeastRun = 23
number_of NoSuch = 24
number_of Unset = 25
number_of Ceiling = 26
number_of NoPlan = 27
number_of HighEntry = 28
number_of Line = 29
number_of Limits = 30
number_of Role = 31
number_of WideEntry = 32
number_of Text = 33
