-- Where a number with 0 in front is looked for, up to here and on from here.
use Rattle.std.proofs.Common.{ℕ, sym, ap, ◌∙◌, eqb}
use Rattle.file_io.proofs.OverBytes.{over_next, over_done}
use Rattle.network_causes.proofs.words.has_zero.Goals as goal

pub loop-byte-preserved : goal.loop-byte-preserved
loop-byte-preserved c = c.loop-byte.invariant ∙ over_next _ _ _ _ _ c.loop-byte-test.true c.zero_after-state.ensures

pub returns : goal.returns
returns c =
    ap (λ (x : ℕ). eqb x 4) (sym (c.loop-byte.invariant ∙ over_done _ _ _ _ c.loop-byte-test.false))
