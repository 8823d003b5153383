-- `dimacs::store::bad_arc` meets its contract. Assumes nothing.
use mathlib.Core.Path.{sym, ap, ◌∙◌}
use Prim.Native.Nat.{ℕ}
use lib.Dec.{ltb}
use lib.IntN.{nat_abs}
use Rattle.dimacs.proofs.LineParts.{signed_stored}
use Rattle.dimacs.proofs.NodeAndArcLines.{bad_start, bad_end, bad_loop, bad_low, bad_ceiling, bad_cost}
use Rattle.dimacs.proofs.store.bad_arc.Goals as goal

pub returns-then-no_node : goal.returns-then-no_node
returns-then-no_node c = bad_start _ c.args.a (sym c.no_node.ensures ∙ c.if-no_node.true)

pub returns-then-no_node-2 : goal.returns-then-no_node-2
returns-then-no_node-2 c = bad_end _ c.args.a (sym c.no_node-2.ensures ∙ c.if-no_node-2.true)

pub returns-then-a : goal.returns-then-a
returns-then-a c = bad_loop _ c.args.a c.if-a.true

pub returns-then-a-gt0 : goal.returns-then-a-gt0
returns-then-a-gt0 c = bad_low _ c.args.a c.if-a-gt0.true

pub returns-then-a-gt4000 : goal.returns-then-a-gt4000
returns-then-a-gt4000 c = bad_ceiling _ c.args.a c.if-a-gt4000.true

pub returns : goal.returns
returns c =
    let a = c.args.a in
    ap (λ (n : ℕ). ltb 1000000 n) (c.magnitude.ensures ∙ ap nat_abs (signed_stored a.cost c.requires))
    ∙ bad_cost _ a (sym c.no_node.ensures ∙ c.if-no_node.false) (sym c.no_node-2.ensures ∙ c.if-no_node-2.false) c.if-a.false c.if-a-gt0.false c.if-a-gt4000.false
