-- `csv_form::after::read_after` meets its contract. Assumes nothing.
use mathlib.Core.Path.{◌∙◌}
use Rattle.csv_form.proofs.AfterAnswers.{plain_past, plain_comma, plain_return, plain_none, after_of_cost, after_of_plain}
use Rattle.csv_form.proofs.after.read_after.Goals as goal

pub returns-then-minus : goal.returns-then-minus
returns-then-minus c = let a = c.args in c.after_cost.ensures ∙ after_of_cost a.s.now a.at a.kind a.source a.minus c.if-minus.true

pub returns-then-s-at : goal.returns-then-s-at
returns-then-s-at c =
    let a = c.args in
    c.after_all.ensures ∙ plain_past a.s.now a.at a.kind a.source c.if-s-at.true ∙
    after_of_plain a.s.now a.at a.kind a.source a.minus c.if-minus.false

pub returns-then-b-eq44 : goal.returns-then-b-eq44
returns-then-b-eq44 c =
    let a = c.args in
    c.after_comma.ensures ∙ plain_comma a.s.now a.at a.kind a.source c.if-s-at.false c.if-b-eq44.true ∙
    after_of_plain a.s.now a.at a.kind a.source a.minus c.if-minus.false

pub returns-then-b-eq13 : goal.returns-then-b-eq13
returns-then-b-eq13 c =
    let a = c.args in
    c.after_record.ensures ∙
    plain_return a.s.now a.at a.kind a.source c.if-s-at.false c.if-b-eq44.false c.if-b-eq13.true ∙
    after_of_plain a.s.now a.at a.kind a.source a.minus c.if-minus.false

pub returns : goal.returns
returns c =
    let a = c.args in
    plain_none a.s.now a.at a.kind a.source c.if-s-at.false c.if-b-eq44.false c.if-b-eq13.false ∙
    after_of_plain a.s.now a.at a.kind a.source a.minus c.if-minus.false
