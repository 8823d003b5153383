-- `csv_answers::flow::put_flow` meets its contract. Assumes nothing.
use mathlib.Core.Path.{refl}
use mir.Syntax.{w64}
use mir.ValLaws.{to_z-of_z}
use Rattle.csv_answers.proofs.flow.put_flow.Goals as goal

pub put_fitting_flow-requires : goal.put_fitting_flow-requires
put_fitting_flow-requires c = c.flow_fits.ensures.yes c.if-flow_fits.true

pub returns-then-flow_fits : goal.returns-then-flow_fits
returns-then-flow_fits c =
    record {
      text_written = λ f. rw (to_z-of_z w64 c.args.total c.ranges.total) at c.put_fitting_flow.ensures;
      nothing = λ d. absurd (d (c.flow_fits.ensures.yes c.if-flow_fits.true));
    }

pub returns : goal.returns
returns c = record { text_written = λ f. absurd (c.flow_fits.ensures.no c.if-flow_fits.false f); nothing = λ d. (refl, refl) }
