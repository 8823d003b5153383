-- `cuts::cut::lower` meets its contract. Assumes nothing.
use native.Mathlib.Omega.{arith}
use Rattle.cuts.proofs.PartBits.{sign_up}
use Rattle.cuts.proofs.cut.lower.Goals as goal

pub returns-then-a-b : goal.returns-then-a-b
returns-then-a-b c = (omega arith, omega (arith, sign_up c.args.a c.requires.0, sign_up c.args.b c.requires.1, c.if-a-b.true))

pub returns-else-a-b : goal.returns-else-a-b
returns-else-a-b c = (omega (arith, sign_up c.args.a c.requires.0, sign_up c.args.b c.requires.1, c.if-a-b.false), omega arith)
