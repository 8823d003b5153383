-- `cuts::cut::nearest` meets its contract. Assumes nothing.
use native.Mathlib.Omega.{arith}
use lib.Count.{ones-le}
use Rattle.cuts.proofs.PartBits.{word_fits}
use Rattle.cuts.proofs.CutSides.{near_sources, near_terminals, near_by_half, near_by_sources, near_by_terminals}
use Rattle.cuts.proofs.cut.nearest.Goals as goal

pub by_half-requires : goal.by_half-requires
by_half-requires c = near_sources c.requires c.others-out.ensures c.if-n-ge32.true

pub returns-then-lines-cols : goal.returns-then-lines-cols
returns-then-lines-cols c =
    near_by_half c.requires c.others-out.ensures c.if-cols-le4294967295.true c.by_half.ensures

pub overflow_mul-lines : goal.overflow_mul-lines
overflow_mul-lines c = omega (arith, ones-le 64 c.others-out.result (word_fits (omega (arith, c.requires.sources)) c.others-out.ensures.within))

pub by_sources-requires : goal.by_sources-requires
by_sources-requires c = near_sources c.requires c.others-out.ensures (omega (arith, c.if-n-eq64.true))

pub returns-then-lines-cols-2 : goal.returns-then-lines-cols-2
returns-then-lines-cols-2 c = near_by_sources c.requires c.others-out.ensures c.by_sources.ensures

pub by_terminals-requires : goal.by_terminals-requires
by_terminals-requires c = near_terminals c.requires c.others-out.ensures

pub returns : goal.returns
returns c = near_by_terminals c.requires c.others-out.ensures c.by_terminals.ensures
