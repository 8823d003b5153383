-- `simplex::potentials::raise_sources` is safe and ends. Assumes nothing.
use Rattle.std.proofs.Common.{◌-◌, arith}
use lib.Bits.{and_le_r}
use Rattle.simplex.proofs.potentials.raise_sources.Goals as goal

pub loop-rest-smaller : goal.loop-rest-smaller
loop-rest-smaller c = omega (arith, and_le_r c.loop-rest.rest (c.loop-rest.rest - 1))

pub loop-rest-preserved : goal.loop-rest-preserved
loop-rest-preserved c = omega (arith, and_le_r c.loop-rest.rest (c.loop-rest.rest - 1))
