-- `validation::tests::out_of_range` meets its contract. Assumes nothing.
use mathlib.Core.Path.{◌≡◌, sym, ap, ◌∙◌}
use mathlib.Core.Bool.{Bool, true, false, ◌||◌}
use lib.IntN.{ℤ, pos, neg_ℤ}
use lib.Signed.{lt_z}
use mir.Syntax.{w64}
use mir.ValLaws.{to_z-of_z}
use Rattle.problem.specs.Range.{outside}
use Rattle.validation.proofs.tests.out_of_range.Goals as goal

pub returns-then-cost-ltminus1000000 : goal.returns-then-cost-ltminus1000000
unfolding outside
returns-then-cost-ltminus1000000 c =
    let x = c.args.cost in
    let q : lt_z x (neg_ℤ (pos 1000000)) ≡ true = ap (λ (z : ℤ). lt_z z (neg_ℤ (pos 1000000))) (sym (to_z-of_z w64 x c.ranges.cost)) ∙ c.if-cost-ltminus1000000.true in
    c.if-cost-ltminus1000000.true ∙ sym (ap (λ (t : Bool). t || lt_z (pos 1000000) x) q)

pub returns-else-cost-ltminus1000000 : goal.returns-else-cost-ltminus1000000
unfolding outside
returns-else-cost-ltminus1000000 c =
    let x = c.args.cost in
    let b = to_z-of_z w64 x c.ranges.cost in
    let q : lt_z x (neg_ℤ (pos 1000000)) ≡ false = ap (λ (z : ℤ). lt_z z (neg_ℤ (pos 1000000))) (sym b) ∙ c.if-cost-ltminus1000000.false in
    ap (λ (z : ℤ). lt_z (pos 1000000) z) b ∙ sym (ap (λ (t : Bool). t || lt_z (pos 1000000) x) q)
