-- `stretch::stretch::keep` meets its contract. Assumes nothing.
use mathlib.Core.Path.{refl}
use native.Mathlib.Omega.{arith}
use Rattle.stretch.proofs.stretch.keep.Goals as goal

pub returns-then-split-y : goal.returns-then-split-y
returns-then-split-y c = record { same = λ h. refl; walked = λ h l. absurd (omega (arith, c.if-split-y.true)) }

pub returns-then-split-next : goal.returns-then-split-next
returns-then-split-next c = record { same = λ h. refl; walked = λ h l. absurd (omega (arith, c.if-split-next.true)) }

pub undo-requires : goal.undo-requires
undo-requires c = c.requires.undoing (omega (arith, c.if-split-y.false))

pub returns : goal.returns
returns c = record { same = λ h. absurd (omega (arith, c.if-split-y.false)); walked = λ h l. c.undo.ensures.rest }
