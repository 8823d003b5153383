-- `cuts::advance::forget` meets its contract. Assumes nothing.
use native.Mathlib.Omega.{arith}
use Rattle.residual.proofs.Bits.{power_fits}
use Rattle.cuts.proofs.Advancing.{forgot_none, forgot}
use Rattle.cuts.proofs.PartBits.{bit_in, bit_least}
use Rattle.residual.specs.inner.Network.{get}
use Rattle.cuts.proofs.advance.forget.Goals as goal

pub overflow_sub-serves : goal.overflow_sub-serves
overflow_sub-serves c =
    omega (arith, power_fits c.args.i c.requires.0, bit_least c.args.i (get c.args.serves.now c.args.j) (bit_in _ _ c.if-word-i-eq1.true))

pub returns-then-x-i-eq0 : goal.returns-then-x-i-eq0
returns-then-x-i-eq0 c =
    rw (power_fits c.args.i c.requires.0) (forgot c.args.i c.requires.1 (bit_in _ _ c.if-word-i-eq1.true) c.if-x-i-eq0.true)

pub returns-else-x-i-eq0 : goal.returns-else-x-i-eq0
returns-else-x-i-eq0 c = forgot_none

pub returns-else-word-i-eq1 : goal.returns-else-word-i-eq1
returns-else-word-i-eq1 c = forgot_none
