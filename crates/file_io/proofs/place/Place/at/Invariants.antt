use Rattle.std.proofs.Common.{◌≡◌, drop}
use Rattle.file_io.specs.inner.Places.{record_over, field_over}
use Rattle.file_io.proofs.place.Place.at.Given as goal

abbrev pub invariant-loop-byte : goal.invariant-loop-byte
invariant-loop-byte l =
    (record_over 1 l.before ≡ record_over l.place.«record» (drop l.byte-index l.before))
    × (field_over 1 l.before ≡ field_over l.place.field (drop l.byte-index l.before))
