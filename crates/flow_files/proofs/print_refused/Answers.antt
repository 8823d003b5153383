-- `flow_files::print_refused` meets its contract. Assumes nothing.
use Rattle.flow_files.proofs.FlowLaws.{not_formed, well_formed}
use Rattle.flow_files.proofs.print_refused.Goals as goal

pub returns-in-Err : goal.returns-in-Err
returns-in-Err c =
    let s = c.args in
    not_formed s.network.now c.check_form-formed.ensures s.number s.place c.in-Err.is c.number.ensures c.print_refusal.ensures

pub returns-in-Ok : goal.returns-in-Ok
returns-in-Ok c =
    let s = c.args in
    well_formed s.network.now c.check_form-formed.ensures s.number s.place c.in-Ok.is c.print_refusal-in-Ok.ensures
