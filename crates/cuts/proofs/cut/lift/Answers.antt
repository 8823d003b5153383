-- `cuts::cut::lift` meets its contract. Assumes nothing.
use mathlib.Core.Path.{ap, ◌∙◌}
use mathlib.Core.Bool.{true≢false}
use mathlib.Core.List.{List}
use Prim.Native.Nat.{ℕ}
use native.Mathlib.Omega.{arith}
use lib.ListN.{length}
use lib.Count.{ones-le}
use Rattle.cuts.proofs.CutSteps.{lifted_fewer, lifted_after}
use Rattle.cuts.proofs.cut.lift.Goals as goal

pub overflow_cast-cols : goal.overflow_cast-cols
overflow_cast-cols c = omega (arith, ones-le 64 c.args.cols (omega (arith, c.ranges.cols)))

pub overflow_mul-cols : goal.overflow_mul-cols
overflow_mul-cols c = omega (arith, ones-le 64 c.args.cols (omega (arith, c.ranges.cols)))

pub rise-requires : goal.rise-requires
rise-requires c = c.requires.long

pub returns-then-cols-n : goal.returns-then-cols-n
returns-then-cols-n c = lifted_fewer c.requires.sources c.requires.terminals c.rise.ensures

pub fall-requires : goal.fall-requires
fall-requires c = c.requires

pub returns-then-fall : goal.returns-then-fall
returns-then-fall c = record { rose = λ e. c.fall.ensures.rose c.if-fall.true; same = λ e. absurd (true≢false e) }

pub rise-requires-2 : goal.rise-requires-2
rise-requires-2 c = ap (λ (l : List ℕ). length l) (c.fall.ensures.same c.if-fall.false) ∙ c.requires.long

pub returns : goal.returns
returns c =
    lifted_after c.requires.sources c.requires.terminals c.fall.ensures c.if-fall.false c.rise-2.ensures
