-- `dimacs::bytes::read_signed_field` meets its contract. Assumes nothing.
use Rattle.dimacs.proofs.LineOffsets.{signed_field_none, signed_field_some}
use Rattle.dimacs.proofs.bytes.read_signed_field.Goals as goal

pub returns-then-byte_at-ne32 : goal.returns-then-byte_at-ne32
returns-then-byte_at-ne32 c = signed_field_none _ _ _ c.byte_at.ensures c.if-byte_at-ne32.true

pub returns : goal.returns
returns c = signed_field_some _ _ _ c.byte_at.ensures c.if-byte_at-ne32.false _ c.skip_spaces-next.ensures _ c.read_signed.ensures
