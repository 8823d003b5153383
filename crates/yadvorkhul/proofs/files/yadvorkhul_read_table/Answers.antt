-- `yadvorkhul::files::yadvorkhul_read_table` meets its contract, which is that of `read_table_file`. Assumes nothing.
use Rattle.yadvorkhul.proofs.files.yadvorkhul_read_table.Goals as goal

pub returns : goal.returns
returns c = c.read_table_file.ensures
