-- `numbers::read_short` meets its contract. The invariant: the first k bytes are digits, and value is their number. Assumes nothing.
use native.Mathlib.Omega.{arith}
use Rattle.std.proofs.Common.{sym, ◌∙◌}
use Rattle.std.proofs.lemmas.Bool.{eqb-true, eqb-false}
use Rattle.numbers.proofs.DigitsRead.{reading_next, reading_low, reading_high, reading_end, below_1000, empty, too_long, as_read}
use Rattle.numbers.proofs.read_short.Goals as goal

pub returns-then-is_empty : goal.returns-then-is_empty
returns-then-is_empty c = empty _ (eqb-true _ _ (sym c.is_empty.ensures ∙ c.if-is_empty.true))

pub returns-then-text-gt4 : goal.returns-then-text-gt4
returns-then-text-gt4 c = too_long _ c.if-text-gt4.true

pub returns-then-byte-lt48 : goal.returns-then-byte-lt48
returns-then-byte-lt48 c =
    as_read _ _ (eqb-false _ _ (sym c.is_empty.ensures ∙ c.if-is_empty.false)) c.if-text-gt4.false (reading_low c.loop-byte.invariant c.loop-byte-test.true c.if-byte-lt48.true)

pub returns-then-byte-gt57 : goal.returns-then-byte-gt57
returns-then-byte-gt57 c =
    as_read _ _ (eqb-false _ _ (sym c.is_empty.ensures ∙ c.if-is_empty.false)) c.if-text-gt4.false (reading_high c.loop-byte.invariant c.loop-byte-test.true c.if-byte-lt48.false c.if-byte-gt57.true)

pub overflow_mul-value : goal.overflow_mul-value
overflow_mul-value c = let l = c.loop-byte in omega (arith, below_1000 l.value l.byte-index (omega arith) l.invariant.small)

pub overflow_add-value : goal.overflow_add-value
overflow_add-value c = let l = c.loop-byte in omega (arith, below_1000 l.value l.byte-index (omega arith) l.invariant.small)

pub loop-byte-preserved : goal.loop-byte-preserved
loop-byte-preserved c = rw c.from.ensures (reading_next c.loop-byte.invariant c.loop-byte-test.true c.if-byte-lt48.false c.if-byte-gt57.false)

pub returns : goal.returns
returns c = as_read _ _ (eqb-false _ _ (sym c.is_empty.ensures ∙ c.if-is_empty.false)) c.if-text-gt4.false (reading_end c.loop-byte.invariant c.loop-byte-test.false)
