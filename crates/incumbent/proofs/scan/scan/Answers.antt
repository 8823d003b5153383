-- `incumbent::scan::scan` meets its contract. Assumes nothing.
use native.Mathlib.Omega.{arith}
use Rattle.incumbent.proofs.IncumbentScan.{ready_less}
use Rattle.incumbent.proofs.FourSplits.{scanned_rest}
use Rattle.incumbent.proofs.scan.scan.Goals as goal

pub part-requires : goal.part-requires
part-requires c = ready_less c.requires (omega arith)

pub returns : goal.returns
returns c = scanned_rest _ c.requires (omega arith) c.fours-held.ensures c.part.ensures
