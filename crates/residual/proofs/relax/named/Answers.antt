-- `residual::relax::named` meets its contract. Assumes nothing.
use mathlib.Core.Path.{refl}
use Rattle.residual.specs.inner.Keys.Named.{other, this}
use Rattle.residual.proofs.relax.named.Goals as goal

pub returns-then-d-level : goal.returns-then-d-level
returns-then-d-level c = this refl c.if-take.true c.if-d-level.true

pub returns-else-d-level : goal.returns-else-d-level
returns-else-d-level c = other refl

pub returns-else-take : goal.returns-else-take
returns-else-take c = other refl
