-- `validation::tests::sum_of` meets its contract. Assumes nothing.
use mathlib.Core.Path.{sym, ap, ◌∙◌}
use Prim.Native.Nat.{ℕ, ◌+◌}
use native.Mathlib.Omega.{arith}
use native.Mathlib.Numerals.{add-one}
use lib.ListN.{get_or}
use Rattle.transport.specs.Sum.{sum}
use Rattle.transport.proofs.Sums.{sum_zero, sum_suc}
use Rattle.validation.proofs.tests.sum_of.Goals as goal

pub loop-x-init : goal.loop-x-init
loop-x-init c = (sym (sum_zero _), omega arith)

pub loop-x-preserved : goal.loop-x-preserved
loop-x-preserved c =
    let i = c.loop-x.x-index in
    let s = c.args.s.now in (
      ap (λ (t : ℕ). t + get_or s i 0) c.loop-x.invariant.0 ∙ sym (sum_suc i (λ j. get_or s j 0)) ∙ ap (λ (k : ℕ). sum k (λ j. get_or s j 0)) (sym (add-one i)),
      omega (arith, c.requires.small i (omega arith)),
    )
