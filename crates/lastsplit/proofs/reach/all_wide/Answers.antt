-- `lastsplit::reach::all_wide` meets its contract. Assumes nothing.
use mathlib.Core.Path.{◌≡◌, refl, sym}
use mathlib.Core.Bool.{Bool, true, false, not, true≢false}
use Prim.Native.Nat.{◌-◌}
use native.Mathlib.Omega.{arith}
use borrow.Author.Count.{below_more}
use Rattle.lastsplit.proofs.reach.all_wide.Goals as goal

not_false : (b : Bool) → not b ≡ false → b ≡ true
not_false true e = refl
not_false false e = absurd (true≢false e)

pub loop-i-init : goal.loop-i-init
loop-i-init c = (omega arith, λ k h. absurd (omega arith))

pub row_wide-requires : goal.row_wide-requires
row_wide-requires c = omega (arith, c.requires, c.loop-i-test.true)

pub returns-then-not-row_wide : goal.returns-then-not-row_wide
returns-then-not-row_wide c = λ e. absurd (true≢false (sym e))

pub overflow_step-i : goal.overflow_step-i
overflow_step-i c = omega (arith, c.requires, c.loop-i-test.true)

pub loop-i-smaller : goal.loop-i-smaller
loop-i-smaller c = omega (arith, c.loop-i-test.true)

pub loop-i-preserved : goal.loop-i-preserved
loop-i-preserved c = (omega (arith, c.loop-i-test.true), below_more _ _ c.loop-i.invariant.1 (c.row_wide.ensures c.if-not-row_wide.false))

pub returns : goal.returns
returns c = λ e i j h l. c.loop-i.invariant.1 i (omega (arith, c.loop-i-test.false)) j l
