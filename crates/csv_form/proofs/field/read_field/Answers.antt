-- `csv_form::field::read_field` meets its contract. Assumes nothing.
use mathlib.Core.Path.{sym, ap, ◌∙◌}
use Rattle.std.proofs.lemmas.Result.{err_from_is_err_and}
use Rattle.csv_form.specs.inner.Reader.{close_quote}
use Rattle.csv_form.proofs.FieldAnswers.{field_past, field_opened, field_bare}
use Rattle.csv_form.proofs.field.read_field.Goals as goal

pub returns-then-s-at : goal.returns-then-s-at
returns-then-s-at c = let a = c.args in field_past a.s.now a.kind a.at c.if-s-at.true

pub returns-then-s-at-ne34 : goal.returns-then-s-at-ne34
returns-then-s-at-ne34 c = let a = c.args in c.read_signed.ensures ∙ field_bare a.s.now a.kind a.at c.if-s-at-ne34.true

pub returns-in_err-f : goal.returns-in_err-f
returns-in_err-f c =
    let a = c.args in
    let p = err_from_is_err_and c.from_residual.result c.from_residual.ensures.1 in
    rw (p.1, p.2) (ap (close_quote a.s.now) (sym c.in_err-f.was ∙ c.read_signed-2.ensures) ∙ field_opened a.s.now a.kind a.at c.if-s-at-ne34.false)

pub returns : goal.returns
returns c =
    let a = c.args in
    c.close_quote.ensures ∙ ap (close_quote a.s.now) (sym c.in_ok-f.was ∙ c.read_signed-2.ensures) ∙
    field_opened a.s.now a.kind a.at c.if-s-at-ne34.false
