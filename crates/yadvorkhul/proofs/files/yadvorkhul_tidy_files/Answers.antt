-- `yadvorkhul::files::yadvorkhul_tidy_files` meets its contract, which is that of `rewrite_texts`. Assumes nothing.
use Rattle.yadvorkhul.proofs.files.yadvorkhul_tidy_files.Goals as goal

pub returns : goal.returns
returns c = c.rewrite_texts.ensures
