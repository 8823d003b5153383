-- `csv_form::after::after_all` meets its contract. Assumes nothing.
use Rattle.csv_form.proofs.after.after_all.Goals as goal

pub returns-in-Tariff : goal.returns-in-Tariff
returns-in-Tariff c = rw c.in-Tariff.is
