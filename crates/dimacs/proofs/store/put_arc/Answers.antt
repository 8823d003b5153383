-- `dimacs::store::put_arc` meets its contract. Assumes nothing.
use mathlib.Core.Path.{ap}
use mathlib.Core.Bool.{Bool, ◌||◌}
use native.Mathlib.Omega.{arith}
use Rattle.dimacs.proofs.LineParts.{signed_stored}
use Rattle.dimacs.proofs.StoredLines.{arc_past, arc_next}
use Rattle.dimacs.proofs.store.put_arc.Goals as goal

pub returns-then-k-ge64 : goal.returns-then-k-ge64
returns-then-k-ge64 c =
    λ arcs e r. let a = c.args in
    arc_past a.nodes arcs _ a.bad _ _ _ _ _ (ap (λ (b : Bool). a.bad || b) c.bad_arc.ensures) r (omega (arith, c.if-k-ge64.true))

pub returns : goal.returns
returns c =
    λ arcs e r. let a = c.args in
    arc_next a.nodes arcs _ a.bad _ _ _ _ _ (ap (λ (b : Bool). a.bad || b) c.bad_arc.ensures) r a.k _ e c.if-k-ge64.false (signed_stored a.a.cost c.requires)
