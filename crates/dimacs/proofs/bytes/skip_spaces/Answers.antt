-- `dimacs::bytes::skip_spaces` meets its contract. Assumes nothing.
use mathlib.Core.Path.{refl, ap, ◌∙◌}
use native.Mathlib.Omega.{arith}
use lib.ListN.{length, length-drop}
use Rattle.dimacs.proofs.LineOffsets.{there, spaces_more, spaces_stop}
use Rattle.dimacs.proofs.bytes.skip_spaces.Goals as goal

pub loop-at-init : goal.loop-at-init
loop-at-init c = (c.requires, refl)

pub returns-then-byte_at-ne32 : goal.returns-then-byte_at-ne32
returns-then-byte_at-ne32 c =
    let s = c.args.s.now in
    let n = c.loop-at.next in
    let v = c.loop-at.invariant in
    let e = v.1 ∙ spaces_stop s n _ c.byte_at.ensures c.if-byte_at-ne32.true in
    record { offset = omega (arith, v.0, ap length e, length-drop n s); upto = v.0; meaning = e }

pub overflow_add-next : goal.overflow_add-next
overflow_add-next c = omega (arith, there c.args.s.now c.loop-at.next _ c.byte_at.ensures (λ q. omega (arith, c.if-byte_at-ne32.false)))

pub loop-at-smaller : goal.loop-at-smaller
loop-at-smaller c = omega (arith, there c.args.s.now c.loop-at.next _ c.byte_at.ensures (λ q. omega (arith, c.if-byte_at-ne32.false)))

pub loop-at-preserved : goal.loop-at-preserved
loop-at-preserved c =
    let s = c.args.s.now in
    let n = c.loop-at.next in (
      omega (arith, there c.args.s.now c.loop-at.next _ c.byte_at.ensures (λ q. omega (arith, c.if-byte_at-ne32.false))),
      c.loop-at.invariant.1 ∙ spaces_more s n _ c.byte_at.ensures c.if-byte_at-ne32.false,
    )
