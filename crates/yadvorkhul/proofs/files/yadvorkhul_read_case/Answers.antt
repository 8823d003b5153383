-- `yadvorkhul::files::yadvorkhul_read_case` meets its contract, which is that of `read_files`. Assumes nothing.
use Rattle.yadvorkhul.proofs.files.yadvorkhul_read_case.Goals as goal

pub returns : goal.returns
returns c = c.read_files.ensures
