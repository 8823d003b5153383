-- `csv_print::narrow_costs` meets its contract. Assumes nothing.
use mathlib.Core.Path.{◌≡◌, ap, ◌∙◌}
use mathlib.Core.Bool.{false≢true, true≢false}
use Prim.Native.Nat.{◌-◌}
use native.Mathlib.Decide.{ℕ_discrete}
use native.Mathlib.Omega.{arith}
use lib.IntN.{ℤ, pos, nat_abs}
use lib.ListN.{get_or}
use Rattle.csv_print.proofs.PrintedSigns.{read_back}
use Rattle.csv_print.proofs.narrow_costs.Goals.{After-magnitude}
use Rattle.csv_print.proofs.narrow_costs.Goals as goal

pub returns-then-s-count : goal.returns-then-s-count
returns-then-s-count c = record { yes = λ e. absurd (false≢true e); no = λ e p. omega (arith, p.there, c.if-s-count.true) }

pub loop-k-init : goal.loop-k-init
loop-k-init c = (omega arith, λ i h. absurd (omega arith))

pub bounds-s-k : goal.bounds-s-k
bounds-s-k c = omega arith

-- the size of the integer of this pass
size : (c : After-magnitude)
    → c.magnitude.result ≡ nat_abs (get_or c.args.s.now c.loop-k.k (pos 0))
size c =
    c.magnitude.ensures ∙
    ap (λ (z : ℤ). nat_abs z) (read_back (get_or c.args.s.now c.loop-k.k (pos 0)) c.magnitude-arg-1.given)

pub returns-then-magnitude-gt2147483647 : goal.returns-then-magnitude-gt2147483647
returns-then-magnitude-gt2147483647 c =
    record {
      yes = λ e. absurd (false≢true e);
      no = λ e p. omega (arith, p.below c.loop-k.k c.loop-k-test.true, size (goal.at.returns-then-magnitude-gt2147483647 c).After-magnitude, c.if-magnitude-gt2147483647.true);
    }

pub overflow_step-k : goal.overflow_step-k
overflow_step-k c = omega (arith, c.loop-k-test.true)

pub loop-k-smaller : goal.loop-k-smaller
loop-k-smaller c = omega (arith, c.loop-k-test.true)

pub loop-k-preserved : goal.loop-k-preserved
loop-k-preserved c = (
  omega (arith, c.loop-k-test.true),
  λ i h. elim (ℕ_discrete i c.loop-k.k) [ yes z ↦ rw z (omega (arith, c.if-magnitude-gt2147483647.false, size (goal.at.loop-k-preserved c).After-magnitude)) | no z ↦ c.loop-k.invariant.1 i (omega arith) ],
)

pub returns : goal.returns
returns c = record { yes = λ e. record { there = omega (arith, c.if-s-count.false); below = λ k h. c.loop-k.invariant.1 k (omega arith) }; no = λ e p. true≢false e }
