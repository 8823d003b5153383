-- `ratesfile::put_file` meets its contract. Assumes nothing.
use mathlib.Core.Path.{sym, ◌∙◌}
use Rattle.std.proofs.Common.{Some, None}
use Rattle.ratesfile.proofs.Records.{file_for, no_file}
use Rattle.ratesfile.proofs.put_file.Goals as goal

pub returns-in-Some : goal.returns-in-Some
returns-in-Some c =
    file_for _ (Some _) (sym c.read_short.ensures ∙ c.in-Some.is) c.put_rates.ensures

pub returns-in-None : goal.returns-in-None
returns-in-None c = file_for _ None (sym c.read_short.ensures ∙ c.in-None.is) no_file
