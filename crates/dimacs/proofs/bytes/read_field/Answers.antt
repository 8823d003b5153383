-- `dimacs::bytes::read_field` meets its contract. Assumes nothing.
use Rattle.dimacs.proofs.LineOffsets.{field_none, field_some}
use Rattle.dimacs.proofs.bytes.read_field.Goals as goal

pub returns-then-byte_at-ne32 : goal.returns-then-byte_at-ne32
returns-then-byte_at-ne32 c = field_none _ _ _ c.byte_at.ensures c.if-byte_at-ne32.true

pub returns : goal.returns
returns c = field_some _ _ _ c.byte_at.ensures c.if-byte_at-ne32.false _ c.skip_spaces-next.ensures _ c.read_number.ensures
