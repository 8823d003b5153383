-- `dimacs::store::store_arc` meets its contract. Assumes nothing.
use mathlib.Core.Path.{sym, ap, subst}
use mathlib.Core.List.{List}
use Prim.Native.Nat.{◌<◌}
use native.Mathlib.Omega.{arith}
use lib.ListN.{length}
use Rattle.std.proofs.Common.{Some}
use Rattle.dimacs.specs.declared.line.Line.{Line}
use Rattle.dimacs.specs.Form.{ArcLine}
use Rattle.dimacs.specs.inner.Stored.{arc_in}
use Rattle.dimacs.proofs.StoredLines.{arc_some}
use Rattle.dimacs.proofs.store.store_arc.Goals as goal

pub returns-in-Arc : goal.returns-in-Arc
returns-in-Arc c =
    λ arcs h r. let e = ap (λ (l : Line). arc_in (Some l)) c.in-Arc.is in
    arc_some arcs (Some c.args.l) e (c.put_arc.ensures arcs (h (subst (λ (z : List ArcLine). 0 < length z) (sym e) (omega arith))) r)
