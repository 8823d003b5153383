-- `csv_print::put_refusal` meets its contract. Assumes nothing.
use Rattle.csv_print.specs.Text.{refusal_text, refusal_header}
use Rattle.csv_print.proofs.DecimalTexts.{then}
use Rattle.csv_print.proofs.put_refusal.Goals as goal

pub returns : goal.returns
unfolding refusal_text refusal_header
returns c = then c.put_bytes-first.ensures c.put_pair.ensures
