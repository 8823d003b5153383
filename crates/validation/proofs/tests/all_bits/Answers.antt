-- `validation::tests::all_bits` meets its contract. Assumes nothing.
use mathlib.Core.Path.{◌≡◌}
use native.Mathlib.Omega.{arith}
use Rattle.validation.proofs.NoneAbove.{above_start, above_bits}
use Rattle.validation.proofs.tests.all_bits.Goals as goal

pub loop-i-init : goal.loop-i-init
loop-i-init c = (omega arith, above_start)

pub loop-i-preserved : goal.loop-i-preserved
loop-i-preserved c = (omega (arith, c.loop-i-test.true), above_bits c.loop-i.invariant.1)

pub returns : goal.returns
returns c = let e : c.loop-i.i ≡ 16 = omega (arith, c.loop-i-test.false, c.loop-i.invariant.0) in rw (← e) c.loop-i.invariant.1
