-- `csv_answers::flow::put_fitting_flow` meets its contract. Assumes nothing.
use mir.Syntax.{w64}
use mir.ValLaws.{to_z-of_z}
use Rattle.csv_answers.specs.Flow.{flow_text, total_header, arcs_header}
use Rattle.csv_print.proofs.DecimalTexts.{then}
use Rattle.csv_answers.proofs.flow.put_fitting_flow.Goals as goal

pub returns : goal.returns
unfolding flow_text total_header arcs_header
returns c =
    then (then (then c.put_bytes-second.ensures (rw (to_z-of_z w64 c.args.total c.ranges.total) at c.put_total-third.ensures)) c.put_bytes-arcs.ensures)
    c.put_arcs.ensures
