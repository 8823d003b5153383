-- The record and the field after the bytes up to here, carried on over those after.
use Rattle.std.proofs.Common.{ℕ, List, sym, ap, ◌∙◌}
use Rattle.file_io.specs.inner.Places.{record_over, field_over}
use Rattle.file_io.proofs.PlaceRuns.{record_next, record_done, field_next, field_done}
use Rattle.file_io.proofs.place.Place.at.Goals as goal

pub loop-byte-preserved : goal.loop-byte-preserved
loop-byte-preserved c = (
  c.loop-byte.invariant.0 ∙ record_next _ _ _ _ c.loop-byte-test.true c.after-place.ensures.«record»,
  c.loop-byte.invariant.1 ∙ field_next _ _ _ _ c.loop-byte-test.true c.after-place.ensures.field,
)

pub returns-clause-record : goal.returns-clause-record
returns-clause-record c =
    sym (ap (λ (l : List ℕ). record_over 1 l) (sym c.first-before.ensures) ∙ c.loop-byte.invariant.0 ∙ record_done _ _ _ c.loop-byte-test.false)

pub returns-clause-field : goal.returns-clause-field
returns-clause-field c =
    sym (ap (λ (l : List ℕ). field_over 1 l) (sym c.first-before.ensures) ∙ c.loop-byte.invariant.1 ∙ field_done _ _ _ c.loop-byte-test.false)
