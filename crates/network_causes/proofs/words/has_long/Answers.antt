-- How many digits stand up to here, counted on from here.
use Rattle.std.proofs.Common.{ℕ, sym, ap, ◌∙◌, ltb}
use Rattle.file_io.proofs.OverBytes.{over_next, over_done}
use Rattle.network_causes.proofs.words.has_long.Goals as goal

pub loop-byte-preserved : goal.loop-byte-preserved
loop-byte-preserved c = c.loop-byte.invariant ∙ over_next _ _ _ _ _ c.loop-byte-test.true c.long_after-digits.ensures

pub returns : goal.returns
returns c =
    ap (λ (x : ℕ). ltb 10 x) (sym (c.loop-byte.invariant ∙ over_done _ _ _ _ c.loop-byte-test.false))
