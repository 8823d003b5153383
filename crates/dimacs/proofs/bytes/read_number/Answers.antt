-- `dimacs::bytes::read_number` meets its contract. Assumes nothing.
use Rattle.dimacs.proofs.LineOffsets.{number_zero, number_other}
use Rattle.dimacs.proofs.bytes.read_number.Goals as goal

pub returns-then-byte_at-eq48 : goal.returns-then-byte_at-eq48
returns-then-byte_at-eq48 c = number_zero _ _ _ c.byte_at.ensures c.if-byte_at-eq48.true

pub returns : goal.returns
returns c = number_other _ _ _ c.byte_at.ensures c.if-byte_at-eq48.false _ c.read_counting.ensures
