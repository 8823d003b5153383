-- `csv_form::after::after_demand` meets its contract. Assumes nothing.
use mathlib.Core.Path.{◌∙◌}
use Rattle.csv_form.proofs.AfterAnswers.{demand_past, demand_return, demand_other}
use Rattle.csv_form.proofs.after.after_demand.Goals as goal

pub returns-then-s-at : goal.returns-then-s-at
returns-then-s-at c = let a = c.args in demand_past a.s.now a.at c.if-s-at.true

pub returns-then-s-at-eq13 : goal.returns-then-s-at-eq13
returns-then-s-at-eq13 c = let a = c.args in c.after_demands.ensures ∙ demand_return a.s.now a.at c.if-s-at.false c.if-s-at-eq13.true

pub returns : goal.returns
returns c = let a = c.args in demand_other a.s.now a.at c.if-s-at.false c.if-s-at-eq13.false
