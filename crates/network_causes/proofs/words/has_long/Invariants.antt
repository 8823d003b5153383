use Rattle.std.proofs.Common.{◌≡◌, drop}
use Rattle.file_io.specs.inner.Over.{over}
use Rattle.network_causes.specs.inner.Words.{long_after}
use Rattle.network_causes.proofs.words.has_long.Given as goal

abbrev pub invariant-loop-byte : goal.invariant-loop-byte
invariant-loop-byte l = over long_after 0 l.line ≡ over long_after l.digits (drop l.byte-index l.line)
