-- `cuts::cut::by_terminals` meets its contract. Assumes nothing.
use native.Mathlib.Omega.{arith}
use Rattle.cuts.proofs.CutSides.{terminal_lows, terminals_nearest}
use Rattle.cuts.proofs.cut.by_terminals.Goals as goal

pub lows-low-requires : goal.lows-low-requires
lows-low-requires c = terminal_lows (omega (arith, c.ranges.cols)) c.requires

pub returns : goal.returns
returns c = terminals_nearest c.lows-low.ensures c.least.ensures
