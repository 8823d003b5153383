-- `csv_plan::put_plan` meets its contract. Assumes nothing.
use mathlib.Core.Path.{refl}
use Rattle.csv_print.proofs.DecimalTexts.{fits_printable}
use Rattle.csv_plan.proofs.put_plan.Goals as goal

pub put_fitting-requires : goal.put_fitting-requires
put_fitting-requires c = let f = c.fits.ensures.yes c.if-fits.true in record { m_bound = (f.sources, f.terminals); printable = fits_printable f }

pub returns-then-fits : goal.returns-then-fits
returns-then-fits c =
    record { text_written = λ f. c.put_fitting.ensures; nothing = λ d. absurd (d (c.fits.ensures.yes c.if-fits.true)) }

pub returns : goal.returns
returns c = record { text_written = λ f. absurd (c.fits.ensures.no c.if-fits.false f); nothing = λ d. (refl, refl) }
