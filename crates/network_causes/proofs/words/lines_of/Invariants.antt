use Rattle.std.proofs.Common.{◌≡◌, drop}
use Rattle.file_io.specs.inner.Over.{over}
use Rattle.network_causes.specs.inner.Words.{line_after_byte, none}
use Rattle.network_causes.proofs.words.lines_of.Given as goal

abbrev pub invariant-loop-byte : goal.invariant-loop-byte
invariant-loop-byte l = over (line_after_byte l.kind) none l.bytes ≡ over (line_after_byte l.kind) l.counted (drop l.byte-index l.bytes)
