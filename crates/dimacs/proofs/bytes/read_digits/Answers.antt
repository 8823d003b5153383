-- `dimacs::bytes::read_digits` meets its contract. Assumes nothing.
use mathlib.Core.Path.{◌≡◌, refl, sym}
use Prim.Native.Nat.{◌+◌, ◌-◌}
use native.Mathlib.Omega.{arith}
use Rattle.dimacs.proofs.LineOffsets.{so_far_start, fits, one_more, no_more_low, no_more_high, all_read}
use Rattle.dimacs.proofs.bytes.read_digits.Goals as goal

pub loop-next-init : goal.loop-next-init
loop-next-init c =
    let e : c.args.at + 9 - c.args.at ≡ 9 = omega arith in
    rw e (so_far_start _ _ _ c.requires.at_in_bounds c.requires.first_bound)

pub returns-then-b-lt48 : goal.returns-then-b-lt48
returns-then-b-lt48 c = no_more_low _ _ _ _ _ _ c.loop-next.invariant _ c.byte_at-b.ensures (omega (arith, c.loop-next-test.true)) c.if-b-lt48.true

pub returns-then-b-gt57 : goal.returns-then-b-gt57
returns-then-b-gt57 c = no_more_high _ _ _ _ _ _ c.loop-next.invariant _ c.byte_at-b.ensures (omega (arith, c.loop-next-test.true)) c.if-b-gt57.true

pub overflow_mul-value : goal.overflow_mul-value
overflow_mul-value c = omega (arith, fits _ _ _ _ _ _ c.loop-next.invariant 0 (omega arith) (omega (arith, c.loop-next-test.true)))

pub overflow_add-value : goal.overflow_add-value
overflow_add-value c =
    omega (arith, fits _ _ _ _ _ _ c.loop-next.invariant (c.byte_at-b.result - 48) (omega (arith, c.if-b-gt57.false)) (omega (arith, c.loop-next-test.true)))

pub loop-next-preserved : goal.loop-next-preserved
loop-next-preserved c =
    let e : c.args.at + 9 - (c.loop-next.next + 1) ≡ c.args.at + 9 - c.loop-next.next - 1 = omega arith in
    rw e (one_more _ _ _ _ _ _ c.loop-next.invariant _ c.byte_at-b.ensures (omega (arith, c.loop-next-test.true)) _ refl c.if-b-lt48.false c.if-b-gt57.false)

pub returns : goal.returns
returns c =
    let e : c.loop-next.next ≡ c.args.at + 9 = omega (arith, c.loop-next-test.false, c.loop-next.auto.next-end) in
    rw (sym e) (all_read _ _ _ _ _ _ c.loop-next.invariant (omega (arith, c.loop-next-test.false)))
