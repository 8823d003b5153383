-- `csv_form::after::after_record` meets its contract. Assumes nothing.
use mathlib.Core.Path.{◌∙◌}
use Rattle.csv_form.proofs.AfterAnswers.{line_tariff, line_more, line_end_lem, record-no, record-yes}
use Rattle.csv_form.specs.declared.Kind.TheVariants.{Tariff, Production}
use Rattle.csv_form.proofs.ByteMarks.{past}
use Rattle.csv_form.proofs.after.after_record.Goals as goal

pub returns-then-s-at : goal.returns-then-s-at
returns-then-s-at c = let a = c.args in record-no a.s.now a.at a.kind (past a.s.now a.at 9 c.if-s-at.true)

pub returns-then-s-at-ne10 : goal.returns-then-s-at-ne10
returns-then-s-at-ne10 c = let a = c.args in record-no a.s.now a.at a.kind c.if-s-at-ne10.true

pub returns-in-Tariff : goal.returns-in-Tariff
returns-in-Tariff c =
    let a = c.args in rw c.in-Tariff.is (line_tariff a.s.now _ ∙ record-yes a.s.now a.at Tariff c.if-s-at-ne10.false)

pub returns-then-next-s : goal.returns-then-next-s
returns-then-next-s c =
    let a = c.args in
    rw c.in-Production.is (line_more a.s.now _ c.if-next-s.true ∙ record-yes a.s.now a.at Production c.if-s-at-ne10.false)

pub returns-else-next-s : goal.returns-else-next-s
returns-else-next-s c =
    let a = c.args in
    rw c.in-Production.is (line_end_lem a.s.now _ c.if-next-s.false ∙ record-yes a.s.now a.at Production c.if-s-at-ne10.false)
