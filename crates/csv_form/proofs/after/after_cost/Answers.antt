-- `csv_form::after::after_cost` meets its contract. Assumes nothing.
use Rattle.csv_form.proofs.AfterAnswers.{cost_no, cost_yes}
use Rattle.csv_form.proofs.ByteMarks.{past}
use Rattle.csv_form.proofs.after.after_cost.Goals as goal

pub returns-then-s-at : goal.returns-then-s-at
returns-then-s-at c = let a = c.args in cost_no a.s.now a.at (past a.s.now a.at 43 c.if-s-at.true)

pub returns-then-s-at-ne44 : goal.returns-then-s-at-ne44
returns-then-s-at-ne44 c = let a = c.args in cost_no a.s.now a.at c.if-s-at-ne44.true

pub returns : goal.returns
returns c = let a = c.args in cost_yes a.s.now a.at c.if-s-at-ne44.false
