-- `dimacs::bytes::read_counting` meets its contract. Assumes nothing.
use mathlib.Core.Path.{refl}
use Rattle.dimacs.proofs.LineOffsets.{counting_low, counting_high, counting_read}
use Rattle.dimacs.proofs.bytes.read_counting.Goals as goal

pub returns-then-b-lt49 : goal.returns-then-b-lt49
returns-then-b-lt49 c = counting_low _ _ _ c.byte_at-b.ensures c.if-b-lt49.true

pub returns-then-b-gt57 : goal.returns-then-b-gt57
returns-then-b-gt57 c = counting_high _ _ _ c.byte_at-b.ensures c.if-b-gt57.true

pub returns : goal.returns
returns c = counting_read _ _ _ c.byte_at-b.ensures c.if-b-lt49.false c.if-b-gt57.false _ _ _ refl c.read_digits.ensures
