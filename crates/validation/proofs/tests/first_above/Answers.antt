-- `validation::tests::first_above` meets its contract. Assumes nothing.
use mathlib.Core.Path.{sym}
use native.Mathlib.Omega.{arith}
use Rattle.problem.proofs.FirstFailing.{above_none, above_some}
use Rattle.validation.proofs.tests.first_above.Goals as goal

pub returns-then-limit-s : goal.returns-then-limit-s
returns-then-limit-s c = sym (above_some _ _ _ (omega (arith, c.loop-k-test.true)) c.loop-k.invariant c.if-limit-s.true)

pub returns : goal.returns
returns c = sym (above_none _ _ (λ k h. c.loop-k.invariant k (omega arith)))
