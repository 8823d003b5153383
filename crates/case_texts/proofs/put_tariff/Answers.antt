-- `case_texts::put_tariff` meets its contract. Assumes nothing.
use native.Mathlib.Omega.{arith}
use Rattle.csv_print.proofs.DecimalTexts.{then, widen}
use Rattle.case_texts.specs.Texts.{demands_text, tariff_of}
use Rattle.case_texts.proofs.put_tariff.Goals as goal

pub returns : goal.returns
unfolding tariff_of demands_text
returns c =
    widen (omega (arith, c.requires))
    (then c.put_sources-last.ensures (then c.put_list-empty.ensures (then c.put_byte-end.ensures c.put_byte.ensures)))
