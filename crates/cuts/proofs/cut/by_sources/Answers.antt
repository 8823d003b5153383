-- `cuts::cut::by_sources` meets its contract. Assumes nothing.
use native.Mathlib.Omega.{arith}
use Rattle.cuts.proofs.PartBits.{high_half_fits}
use Rattle.cuts.proofs.CutSides.{fewer, source_lows_2, sources_nearest}
use Rattle.cuts.proofs.cut.by_sources.Goals as goal

pub by_half-far-requires : goal.by_half-far-requires
by_half-far-requires c = fewer (omega arith) c.requires

pub lows-more-requires : goal.lows-more-requires
lows-more-requires c = source_lows_2 c.requires

pub least-requires : goal.least-requires
least-requires c =
    record { few = high_half_fits c.args.cols (omega (arith, c.ranges.cols)); nodes = omega arith; most = c.lows-more.ensures.most; weights = c.requires.most }

pub returns : goal.returns
returns c = sources_nearest c.by_half-far.ensures c.lows-more.ensures c.least.ensures
