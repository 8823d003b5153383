-- `csv_form::after::after_demands` meets its contract. Assumes nothing.
use Rattle.csv_form.proofs.AfterAnswers.{last_no, last_more, last_end}
use Rattle.csv_form.proofs.ByteMarks.{past}
use Rattle.csv_form.proofs.after.after_demands.Goals as goal

pub returns-then-s-at : goal.returns-then-s-at
returns-then-s-at c = let a = c.args in last_no a.s.now a.at (past a.s.now a.at 9 c.if-s-at.true)

pub returns-then-s-at-ne10 : goal.returns-then-s-at-ne10
returns-then-s-at-ne10 c = let a = c.args in last_no a.s.now a.at c.if-s-at-ne10.true

pub returns-then-next-s : goal.returns-then-next-s
returns-then-next-s c = let a = c.args in last_more a.s.now a.at c.if-s-at-ne10.false c.if-next-s.true

pub returns : goal.returns
returns c = let a = c.args in last_end a.s.now a.at c.if-s-at-ne10.false c.if-next-s.false
