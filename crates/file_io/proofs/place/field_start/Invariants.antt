use Rattle.std.proofs.Common.{◌≡◌, drop}
use Rattle.file_io.specs.inner.Places.{start_from}
use Rattle.file_io.proofs.place.field_start.Given as goal

abbrev pub invariant-loop-i : goal.invariant-loop-i
invariant-loop-i l =
    start_from l.record l.field 0 1 1 l.bytes ≡ start_from l.record l.field l.i l.here.«record» l.here.field (drop l.i l.bytes)
