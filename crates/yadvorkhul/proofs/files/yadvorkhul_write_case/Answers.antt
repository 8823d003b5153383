-- `yadvorkhul::files::yadvorkhul_write_case` meets its contract, which is that of `write_texts`. Assumes nothing.
use Rattle.yadvorkhul.proofs.files.yadvorkhul_write_case.Goals as goal

pub returns : goal.returns
returns c = c.write_texts.ensures
