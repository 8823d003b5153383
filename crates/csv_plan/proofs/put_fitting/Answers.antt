-- `csv_plan::put_fitting` meets its contract. Assumes nothing.
use Rattle.csv_print.specs.Text.{plan_text, plan_header}
use Rattle.csv_print.proofs.DecimalTexts.{then}
use Rattle.csv_plan.proofs.put_fitting.Goals as goal

pub returns : goal.returns
unfolding plan_text plan_header
returns c =
    then (then c.put_bytes-first.ensures c.put_record-lanes.ensures) c.put_lanes.ensures
