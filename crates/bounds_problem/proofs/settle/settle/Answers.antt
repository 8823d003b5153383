-- `bounds_problem::settle::settle` meets its contract. Assumes nothing.
use mathlib.Core.Path.{ap, ap₂, ◌∙◌}
use Prim.Native.Nat.{ℕ}
use native.Mathlib.Omega.{arith}
use lib.IntN.{ℤ, sub_ℕ}
use lib.ListN.{length}
use Rattle.transport.specs.Curve.{written}
use Rattle.problem.proofs.MachineIntegers.{read_back}
use Rattle.bounds_problem.specs.inner.Heights.{marks_by}
use Rattle.bounds_problem.specs.Answers.{known}
use Rattle.bounds_problem.specs.inner.Settled.{settled_of}
use Rattle.bounds_problem.proofs.HeightLoops.{least_small}
use Rattle.bounds_problem.proofs.settle.settle.Goals as goal

pub signed-smallest-requires : goal.signed-smallest-requires
signed-smallest-requires c =
    omega (arith, c.least_sum-least.ensures, least_small c.requires.0)

pub signed-largest-requires : goal.signed-largest-requires
signed-largest-requires c =
    omega (arith, c.least_sum-most.ensures, least_small c.requires.1)

pub returns : goal.returns
unfolding settled_of
returns c =
    let s = c.args in
    let low = c.least_sum-least.ensures in
    let high = c.least_sum-most.ensures in (
      ap₂ (λ (x y : ℤ). known s.lo (length s.lows.now) x y)
          (read_back c.signed-smallest.result c.signed-smallest.type_inv ∙ c.signed-smallest.ensures ∙ ap (λ (v : ℕ). sub_ℕ v 128000000000) low)
          (read_back c.signed-largest.result c.signed-largest.type_inv ∙ c.signed-largest.ensures ∙ ap (λ (v : ℕ). sub_ℕ v 128000000000) high),
      c.mark_all.ensures ∙ ap (λ (v : ℕ). written (marks_by s.curve.now s.lows.now v) s.answers.now) high,
    )
