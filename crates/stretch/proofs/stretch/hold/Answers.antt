-- `stretch::stretch::hold` meets its contract. Assumes nothing.
use mathlib.Core.Path.{refl}
use native.Mathlib.Omega.{arith}
use Rattle.stretch.proofs.stretch.hold.Goals as goal

pub returns-then-split-y : goal.returns-then-split-y
returns-then-split-y c = record { same = λ h. refl; new = λ h l. absurd (omega (arith, c.if-split-y.true)) }

pub returns-then-split-next : goal.returns-then-split-next
returns-then-split-next c = record { same = λ h. absurd (omega arith); new = λ h l. refl }

pub returns-else-split-next : goal.returns-else-split-next
returns-else-split-next c = record { same = λ h. refl; new = λ h l. absurd (omega arith) }
