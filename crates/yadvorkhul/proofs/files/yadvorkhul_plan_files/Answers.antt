-- `yadvorkhul::files::yadvorkhul_plan_files` meets its contract, which is that of `plan_text`. Assumes nothing.
use Rattle.yadvorkhul.proofs.files.yadvorkhul_plan_files.Goals as goal

pub returns : goal.returns
returns c = c.plan_text.ensures
