-- `incumbent::scan::fours` meets its contract. Assumes nothing.
use mathlib.Core.Path.{sym, ◌∙◌}
use native.Mathlib.Omega.{arith}
use Rattle.incumbent.proofs.IncumbentScan.{ready_less}
use Rattle.incumbent.proofs.FourSplits.{lowest_none}
use Rattle.incumbent.proofs.scan.fours.Goals as goal

pub returns-then-best-low : goal.returns-then-best-low
returns-then-best-low c = lowest_none c.lowest-low.ensures c.if-best-low.true

pub part-requires : goal.part-requires
part-requires c = ready_less c.requires (omega (arith, c.lowest-low.ensures.within c.if-best-low.false))

pub returns : goal.returns
returns c = c.part.ensures ∙ sym (c.lowest-low.ensures.found c.if-best-low.false)
