-- A byte is found in the bytes up to here, or is looked for in those after.
use Rattle.std.proofs.Common.{sym, ◌∙◌}
use Rattle.file_io.proofs.OverBytes.{over_next, over_done}
use Rattle.file_io.proofs.text.has.Goals as goal

pub loop-b-preserved : goal.loop-b-preserved
loop-b-preserved c = c.loop-b.invariant ∙ over_next _ _ _ _ _ c.loop-b-test.true c.found_after-found.ensures

pub returns : goal.returns
returns c = sym (c.loop-b.invariant ∙ over_done _ _ _ _ c.loop-b-test.false)
