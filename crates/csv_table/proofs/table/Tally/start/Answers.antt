-- `csv_table::table::Tally::start` meets its contract. Assumes nothing.
use mathlib.Core.Path.{refl}
use Rattle.csv_table.specs.Files.{wanted}
use Rattle.csv_table.proofs.table.Tally.start.Goals as goal

pub returns-in-Tariff : goal.returns-in-Tariff
unfolding wanted
returns-in-Tariff c = rw c.in-Tariff.is refl

pub returns-in-Production : goal.returns-in-Production
unfolding wanted
returns-in-Production c = rw c.in-Production.is refl
