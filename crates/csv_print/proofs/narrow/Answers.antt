-- `csv_print::narrow` meets its contract. Assumes nothing.
use mathlib.Core.Bool.{false≢true, true≢false}
use Prim.Native.Nat.{◌-◌}
use native.Mathlib.Decide.{ℕ_discrete}
use native.Mathlib.Omega.{arith}
use Rattle.csv_print.proofs.narrow.Goals as goal

pub returns-then-s-count : goal.returns-then-s-count
returns-then-s-count c = record { yes = λ e. absurd (false≢true e); no = λ e p. omega (arith, p.there, c.if-s-count.true) }

pub loop-k-init : goal.loop-k-init
loop-k-init c = (omega arith, λ i h. absurd (omega arith))

pub returns-then-s-k-gt4294967295 : goal.returns-then-s-k-gt4294967295
returns-then-s-k-gt4294967295 c = record { yes = λ e. absurd (false≢true e); no = λ e p. let z = p.below c.loop-k.k c.loop-k-test.true in omega (arith, z, c.if-s-k-gt4294967295.true) }

pub loop-k-preserved : goal.loop-k-preserved
loop-k-preserved c = (
  omega (arith, c.loop-k-test.true),
  λ i h. elim (ℕ_discrete i c.loop-k.k) [ yes z ↦ rw z (omega (arith, c.if-s-k-gt4294967295.false)) | no z ↦ c.loop-k.invariant.1 i (omega arith) ],
)

pub returns : goal.returns
returns c = record { yes = λ e. record { there = omega (arith, c.if-s-count.false); below = λ k h. c.loop-k.invariant.1 k (omega arith) }; no = λ e p. true≢false e }
