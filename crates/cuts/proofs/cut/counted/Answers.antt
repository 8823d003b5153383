-- `cuts::cut::counted` meets its contract. Assumes nothing.
use native.Mathlib.Omega.{arith}
use Rattle.cuts.proofs.PartBits.{bit_shift}
use Rattle.cuts.proofs.cut.counted.Goals as goal

pub returns-then-part-b-eq1 : goal.returns-then-part-b-eq1
returns-then-part-b-eq1 c = record { inside = λ z. omega arith; most = omega (arith, c.requires.1) }

pub returns : goal.returns
returns c = record { inside = λ z. absurd (omega (arith, bit_shift c.args.part c.args.b, c.if-part-b-eq1.false)); most = omega arith }
