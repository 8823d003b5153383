-- `paths::search::choose` meets its contract. Assumes nothing.
use mathlib.Core.Path.{refl}
use native.Mathlib.Omega.{arith}
use Rattle.paths.proofs.search.choose.Goals as goal

pub returns-then-next-lt96 : goal.returns-then-next-lt96
returns-then-next-lt96 c = record { named = λ h. refl; least = λ h. absurd (omega (arith, c.if-next-lt96.true)) }

pub returns : goal.returns
returns c = record { named = λ h. absurd (omega (arith, c.if-next-lt96.false)); least = λ h. c.nearest.ensures }
