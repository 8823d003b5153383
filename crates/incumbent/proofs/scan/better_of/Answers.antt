-- `incumbent::scan::better_of` meets its contract. Assumes nothing.
use mathlib.Core.Path.{sym}
use Rattle.incumbent.proofs.IncumbentScan.{better_new, better_old}
use Rattle.incumbent.proofs.scan.better_of.Goals as goal

pub returns-then-total-best : goal.returns-then-total-best
returns-then-total-best c = sym (better_new _ _ _ _ c.if-total-best.true)

pub returns : goal.returns
returns c = sym (better_old _ _ _ _ c.if-total-best.false)
