use Rattle.std.proofs.Common.{◌≡◌, drop}
use Rattle.file_io.specs.inner.Places.{end_from}
use Rattle.file_io.proofs.place.record_end.Given as goal

abbrev pub invariant-loop-i : goal.invariant-loop-i
invariant-loop-i l = end_from l.record 0 1 l.bytes ≡ end_from l.record l.i l.here.«record» (drop l.i l.bytes)
