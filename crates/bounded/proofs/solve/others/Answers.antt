-- `bounded::solve::others` meets its contract. Assumes nothing.
use Rattle.std.proofs.Common.{◌-◌, arith}
use lib.Bits.{and_le_r}
use Rattle.bounded.proofs.solve.others.Goals as goal

pub returns : goal.returns
returns c = omega (arith, and_le_r c.args.word (c.args.word - 1))
