-- The lines of the kind up to here, counted on from here.
use Rattle.std.proofs.Common.{sym, ap, ◌∙◌}
use Rattle.file_io.proofs.OverBytes.{over_next, over_done}
use Rattle.network_causes.specs.declared.words.Counted.{Counted}
use Rattle.network_causes.proofs.words.lines_of.Goals as goal

pub loop-byte-preserved : goal.loop-byte-preserved
loop-byte-preserved c = c.loop-byte.invariant ∙ over_next _ _ _ _ _ c.loop-byte-test.true c.line_after-counted.ensures

pub returns : goal.returns
returns c =
    ap (λ (x : Counted). x.count) (sym (c.loop-byte.invariant ∙ over_done _ _ _ _ c.loop-byte-test.false))
