-- `csv_form::after::after_comma` meets its contract. Assumes nothing.
use mathlib.Core.Path.{◌∙◌}
use Rattle.csv_form.proofs.AfterAnswers.{comma_any, comma_of_source, comma_of_demands}
use Rattle.csv_form.proofs.after.after_comma.Goals as goal

pub returns-in-Production : goal.returns-in-Production
returns-in-Production c = let a = c.args in rw c.in-Production.is (comma_any a.s.now a.at a.source)

pub returns-then-source : goal.returns-then-source
returns-then-source c = let a = c.args in rw c.in-Tariff.is (comma_of_source a.s.now a.at a.source c.if-source.true)

pub returns-else-source : goal.returns-else-source
returns-else-source c =
    let a = c.args in
    rw c.in-Tariff.is (c.after_demand.ensures ∙ comma_of_demands a.s.now a.at a.source c.if-source.false)
