-- `dimacs::line::after_min` meets its contract. Assumes nothing.
use Rattle.dimacs.proofs.LineParts.{min_none, min_1, min_2, min_3, min_read}
use Rattle.dimacs.proofs.line.after_min.Goals as goal

pub returns-then-byte_at-ne32 : goal.returns-then-byte_at-ne32
returns-then-byte_at-ne32 c = min_none _ _ _ c.byte_at.ensures c.if-byte_at-ne32.true

pub returns-then-byte_at-ne109 : goal.returns-then-byte_at-ne109
returns-then-byte_at-ne109 c =
    min_1 _ _ _ c.byte_at.ensures c.if-byte_at-ne32.false _ c.skip_spaces-m.ensures _ c.byte_at-2.ensures c.if-byte_at-ne109.true

pub returns-then-byte_at-ne105 : goal.returns-then-byte_at-ne105
returns-then-byte_at-ne105 c =
    min_2 _ _ _ c.byte_at.ensures c.if-byte_at-ne32.false _ c.skip_spaces-m.ensures _ c.byte_at-2.ensures
    c.if-byte_at-ne109.false _ c.byte_at-3.ensures c.if-byte_at-ne105.true

pub returns-then-byte_at-ne110 : goal.returns-then-byte_at-ne110
returns-then-byte_at-ne110 c =
    min_3 _ _ _ c.byte_at.ensures c.if-byte_at-ne32.false _ c.skip_spaces-m.ensures _ c.byte_at-2.ensures
    c.if-byte_at-ne109.false _ c.byte_at-3.ensures c.if-byte_at-ne105.false _ c.byte_at-4.ensures c.if-byte_at-ne110.true

pub returns : goal.returns
returns c =
    min_read _ _ _ c.byte_at.ensures c.if-byte_at-ne32.false _ c.skip_spaces-m.ensures _ c.byte_at-2.ensures
    c.if-byte_at-ne109.false _ c.byte_at-3.ensures c.if-byte_at-ne105.false _ c.byte_at-4.ensures c.if-byte_at-ne110.false
