-- `flow_files::check_form` meets its contract. Assumes nothing.
use Rattle.flow_network.proofs.FileLaws.{zero_arcs, zero_nodes}
use Rattle.flow_files.proofs.FlowLaws.{formed_is}
use Rattle.flow_files.proofs.check_form.Goals as goal

pub read_file-requires : goal.read_file-requires
read_file-requires c = record { arcs_read = zero_arcs; nodes_read = zero_nodes }

pub returns : goal.returns
returns c = formed_is _ c.read_file.result _ _ _ _ _ _ _ c.read_file.ensures.reads
