-- `lastsplit::reach::row_wide` meets its contract. Assumes nothing.
use Prim.Native.Nat.{◌-◌, ◌≤◌}
use native.Mathlib.Omega.{arith}
use lib.Bits.{and_le_l, and_le_r}
use borrow.Author.Count.{below_more}
use borrow.Author.Tests.{leb-true}
use Rattle.lastsplit.proofs.reach.row_wide.Goals as goal

pub loop-j-init : goal.loop-j-init
loop-j-init c = (omega arith, omega arith, λ l h. absurd (omega arith))

pub loop-j-preserved : goal.loop-j-preserved
loop-j-preserved c =
    let all = c.loop-j.all in
    let own = c.wide_bit-all.result in (
      omega (arith, c.loop-j-test.true),
      omega arith,
      below_more _ _ (λ l h w. c.loop-j.invariant.2 l h (omega (arith, and_le_l all own)))
          (λ w. c.wide_bit-all.ensures (omega (arith, and_le_r all own))),
    )

pub returns : goal.returns
returns c = λ e j h.
    let w : 2147483648 ≤ c.loop-j.all = leb-true _ _ e in
    rw (← c.loop-j.invariant.1) (c.loop-j.invariant.2 j (omega (arith, c.loop-j-test.false)) w)
