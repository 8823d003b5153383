use Rattle.std.proofs.Common.{◌≡◌, false, drop}
use Rattle.file_io.specs.inner.Over.{over, found_after}
use Rattle.file_io.proofs.text.has.Given as goal

abbrev pub invariant-loop-b : goal.invariant-loop-b
invariant-loop-b l = over (found_after l.byte) false l.s ≡ over (found_after l.byte) l.found (drop l.b-index l.s)
