-- `cuts::cut::others` meets its contract. Assumes nothing.
use Prim.Native.Nat.{ℕ, ◌-◌, ◌^◌}
use native.Mathlib.Omega.{arith}
use Rattle.cuts.proofs.PartBits.{others, word_power}
use lib.Pow.{pow_pos}
use mathlib.Core.Path.{◌≡◌, ap}
use Rattle.cuts.proofs.cut.others.Goals as goal

pub overflow_sub-all : goal.overflow_sub-all
overflow_sub-all c = omega (arith, word_power c.args.n c.if-n-lt64.true, pow_pos c.args.n)

pub returns-then-n-lt64 : goal.returns-then-n-lt64
returns-then-n-lt64 c = others c.args.part (ap (λ (z : ℕ). z - 1) (word_power c.args.n c.if-n-lt64.true))

pub returns : goal.returns
returns c = let z : 64 ≡ c.args.n = omega (arith, c.requires, c.if-n-lt64.false) in others c.args.part (ap (λ (k : ℕ). 2 ^ k - 1) z)
