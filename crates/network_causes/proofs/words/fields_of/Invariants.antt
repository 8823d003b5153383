use Rattle.std.proofs.Common.{◌≡◌, drop}
use Rattle.file_io.specs.inner.Over.{over}
use Rattle.network_causes.specs.inner.Words.{field_after_byte, none}
use Rattle.network_causes.proofs.words.fields_of.Given as goal

abbrev pub invariant-loop-byte : goal.invariant-loop-byte
invariant-loop-byte l = over field_after_byte none l.line ≡ over field_after_byte l.counted (drop l.byte-index l.line)
