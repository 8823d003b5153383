-- `cuts::columns::by_terminal` meets its contract. Assumes nothing.
use native.Mathlib.Omega.{arith}
use Rattle.cuts.proofs.ByTerminal.{transpose_fewer, fill_end}
use Rattle.cuts.proofs.columns.by_terminal.Goals as goal

pub loop-j-init : goal.loop-j-init
loop-j-init c = (omega arith, c.requires.1)

pub transpose_column-requires : goal.transpose_column-requires
transpose_column-requires c = record { transpose_ready = transpose_fewer c.requires.0 (omega (arith, c.loop-j-test.true)); filled = c.loop-j.invariant.1 }

pub loop-j-preserved : goal.loop-j-preserved
loop-j-preserved c = (omega (arith, c.loop-j-test.true), c.transpose_column.ensures)

pub returns : goal.returns
returns c = fill_end c.loop-j-test.false c.loop-j.invariant.1
