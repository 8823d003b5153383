-- `cuts::cut::way_out` meets its contract. Assumes nothing.
use native.Mathlib.Omega.{arith}
use Prim.Native.Nat.{◌^◌}
use lib.Pow.{pow_mono}
use Rattle.cuts.proofs.CutSteps.{and_few}
use Rattle.cuts.proofs.CutSlack.{exit_shut, exit_none, exit_inside}
use Rattle.cuts.proofs.cut.way_out.Goals as goal

pub returns-then-closed : goal.returns-then-closed
returns-then-closed c = exit_shut (c.closed.ensures c.if-closed.true)

pub returns-then-wide : goal.returns-then-wide
returns-then-wide c = exit_none c.requires

pub overflow_cast-inside : goal.overflow_cast-inside
overflow_cast-inside c = omega (arith, c.others.ensures.within, pow_mono c.requires.sources)

pub leaving-requires : goal.leaving-requires
leaving-requires c = record { exit_ready = c.requires; inside_bound = and_few {k = 2 ^ c.args.lanes.now.m} c.args.rows _ c.others.ensures.within }

pub returns : goal.returns
returns c = exit_inside c.others.ensures c.leaving.ensures
