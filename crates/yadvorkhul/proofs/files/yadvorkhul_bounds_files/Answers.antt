-- `yadvorkhul::files::yadvorkhul_bounds_files` meets its contract, which is that of `bounds_text`. Assumes nothing.
use Rattle.yadvorkhul.proofs.files.yadvorkhul_bounds_files.Goals as goal

pub returns : goal.returns
returns c = c.bounds_text.ensures
