use Rattle.std.proofs.Common.{◌≡◌, drop}
use Rattle.file_io.specs.inner.Over.{over}
use Rattle.network_causes.specs.inner.Words.{zero_after}
use Rattle.network_causes.proofs.words.has_zero.Given as goal

abbrev pub invariant-loop-byte : goal.invariant-loop-byte
invariant-loop-byte l = over zero_after 0 l.line ≡ over zero_after l.state (drop l.byte-index l.line)
