-- `cuts::cut::by_half` meets its contract. Assumes nothing.
use native.Mathlib.Omega.{arith}
use Rattle.cuts.proofs.PartBits.{low_half_fits}
use Rattle.cuts.proofs.CutSides.{source_lows, half_nearest}
use Rattle.cuts.proofs.cut.by_half.Goals as goal

pub lows-low-requires : goal.lows-low-requires
lows-low-requires c = source_lows c.requires

pub least-requires : goal.least-requires
least-requires c = record { few = low_half_fits c.args.cols; nodes = omega arith; most = c.lows-low.ensures.most; weights = c.requires.most }

pub returns : goal.returns
returns c = half_nearest c.args.cols c.lows-low.ensures c.least.ensures
