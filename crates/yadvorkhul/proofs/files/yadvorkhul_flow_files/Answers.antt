-- `yadvorkhul::files::yadvorkhul_flow_files` meets its contract, which is that of `flow_text`. Assumes nothing.
use Rattle.yadvorkhul.proofs.files.yadvorkhul_flow_files.Goals as goal

pub returns : goal.returns
returns c = c.flow_text.ensures
