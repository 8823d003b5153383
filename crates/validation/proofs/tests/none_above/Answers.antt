-- `validation::tests::none_above` meets its contract. Assumes nothing.
use native.Mathlib.Omega.{arith}
use Rattle.validation.proofs.NoneAbove.{above_joined}
use Rattle.validation.proofs.tests.none_above.Goals as goal

pub loop-k-init : goal.loop-k-init
loop-k-init c = (omega arith, λ j h. absurd (omega arith))

pub returns-then-not-fits : goal.returns-then-not-fits
returns-then-not-fits c = c.loop-k.invariant

pub loop-k-preserved : goal.loop-k-preserved
loop-k-preserved c = (
  omega (arith, c.loop-k-test.true),
  above_joined c.loop-k.invariant.1 (c.fits.ensures c.if-not-fits.false),
)

pub returns : goal.returns
returns c = c.loop-k.invariant
