-- `csv_answers::flow::paid` meets its contract. Assumes nothing.
use mathlib.Core.Path.{sym, ap, ◌∙◌}
use mathlib.Core.Bool.{Bool, cond}
use lib.IntN.{pos, ◌*ℤ◌}
use mir.Syntax.{w64}
use mir.ValLaws.{to_z_pos}
use Rattle.csv_print.proofs.PrintedSigns.{product_fits, product_stored}
use borrow.Author.Tests.{eq-eqb, ne_eqb}
use Rattle.csv_answers.proofs.flow.paid.Goals as goal

pub returns-then-k-named : goal.returns-then-k-named
returns-then-k-named c =
    to_z_pos w64 c.args.charge c.requires.0 ∙ sym (ap (λ (b : Bool). cond b (pos c.args.charge) (pos c.args.amount *ℤ c.args.cost)) (eq-eqb _ _ c.if-k-named.true))

pub overflow_mul-result : goal.overflow_mul-result
overflow_mul-result c =
    product_fits c.args.amount c.args.cost c.requires.1 c.ranges.cost.sfits c.requires.2

pub returns : goal.returns
returns c =
    product_stored c.args.amount c.args.cost c.requires.1 c.ranges.cost.sfits c.requires.2
    ∙ sym (ap (λ (b : Bool). cond b (pos c.args.charge) (pos c.args.amount *ℤ c.args.cost)) (ne_eqb _ _ c.if-k-named.false))
