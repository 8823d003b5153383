-- `dimacs::bytes::read_signed` meets its contract. Assumes nothing.
use mathlib.Core.Path.{◌∙◌}
use Rattle.csv_print.proofs.PrintedSigns.{read_back}
use Rattle.dimacs.proofs.LineOffsets.{minus_without, signed_minus, plain_without, signed_plain}
use Rattle.dimacs.proofs.bytes.read_signed.Goals as goal

pub returns-in_err-n : goal.returns-in_err-n
returns-in_err-n c =
    rw c.from_residual.ensures (minus_without _ _ _ c.byte_at.ensures c.if-byte_at-eq45.true _ c.read_counting.ensures c.in_err-n.was)

pub returns-then-byte_at-eq45 : goal.returns-then-byte_at-eq45
returns-then-byte_at-eq45 c =
    signed_minus _ _ _ c.byte_at.ensures c.if-byte_at-eq45.true _ c.read_counting.ensures _ _ c.in_ok-n.was
    (read_back c.with_sign-value.result c.with_sign-value.type_inv ∙ c.with_sign-value.ensures)

pub returns-in_err-n-2 : goal.returns-in_err-n-2
returns-in_err-n-2 c =
    rw c.from_residual-in_err-n-2.ensures (plain_without _ _ _ c.byte_at.ensures c.if-byte_at-eq45.false _ c.read_number.ensures c.in_err-n-2.was)

pub returns : goal.returns
returns c =
    signed_plain _ _ _ c.byte_at.ensures c.if-byte_at-eq45.false _ c.read_number.ensures _ _ c.in_ok-n-2.was
    (read_back c.with_sign-value-2.result c.with_sign-value-2.type_inv ∙ c.with_sign-value-2.ensures)
