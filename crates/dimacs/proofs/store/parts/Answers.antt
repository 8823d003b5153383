-- `dimacs::store::parts` meets its contract. Assumes nothing.
use mathlib.Core.Path.{sym, ap, ◌∙◌}
use lib.IntN.{ℤ, pos}
use lib.Signed.{lt_z}
use Rattle.dimacs.proofs.LineParts.{signed_stored}
use Rattle.dimacs.proofs.NodeAndArcLines.{parts_taken, parts_given}
use Rattle.dimacs.proofs.store.parts.Goals as goal

pub returns-then-supply-lt0 : goal.returns-then-supply-lt0
returns-then-supply-lt0 c =
    let z = c.args.supply in
    let b = signed_stored z c.requires in
    rw (c.magnitude-size.ensures, b) (parts_taken z c.requires (ap (λ (x : ℤ). lt_z x (pos 0)) (sym b) ∙ c.if-supply-lt0.true))

pub returns-else-supply-lt0 : goal.returns-else-supply-lt0
returns-else-supply-lt0 c =
    let z = c.args.supply in
    let b = signed_stored z c.requires in
    rw (c.magnitude-size.ensures, b) (parts_given z c.requires (ap (λ (x : ℤ). lt_z x (pos 0)) (sym b) ∙ c.if-supply-lt0.false))
