-- `dimacs::store::put_node` meets its contract. Assumes nothing.
use mathlib.Core.Path.{sym, ap, ◌∙◌}
use mathlib.Core.Bool.{Bool, ◌||◌}
use mathlib.Core.Logic.{inl, inr}
use Prim.Native.Nat.{◌-◌}
use native.Mathlib.Omega.{arith}
use borrow.Author.Tests.{lt-ltb, le-ltb}
use Rattle.dimacs.proofs.LineParts.{signed_stored}
use Rattle.dimacs.proofs.StoredLines.{node_none, node_again, node_next}
use Rattle.dimacs.proofs.store.put_node.Goals as goal

pub returns-then-v-lt1 : goal.returns-then-v-lt1
returns-then-v-lt1 c = λ sup r. let a = c.args in node_none a.nodes sup _ a.odd _ _ _ r (inl c.if-v-lt1.true)

pub returns-then-v-gt32 : goal.returns-then-v-gt32
returns-then-v-gt32 c = λ sup r. let a = c.args in node_none a.nodes sup _ a.odd _ _ _ r (inr c.if-v-gt32.true)

pub returns-then-marks-i-gt0 : goal.returns-then-marks-i-gt0
returns-then-marks-i-gt0 c =
    λ sup r. let a = c.args in
    node_again a.nodes sup _ a.odd _ _ _ r (a.v.id - 1) (omega (arith, c.if-v-lt1.false)) (omega (arith, c.if-v-gt32.false, c.if-v-lt1.false)) c.if-marks-i-gt0.true

pub returns-then-nodes-v : goal.returns-then-nodes-v
returns-then-nodes-v c =
    λ sup r. let a = c.args in
    let p = c.parts-give.ensures in
    node_next a.nodes sup _ a.odd _ _ _ r (a.v.id - 1) (omega (arith, c.if-v-lt1.false)) (omega (arith, c.if-v-gt32.false, c.if-v-lt1.false))
    _ _ c.if-marks-i-gt0.false (p.is ∙ signed_stored a.v.supply c.requires) p.way p.give_small p.take_small _
    (lt-ltb a.nodes a.v.id c.if-nodes-v.true ∙ sym (ap (λ (b : Bool). b || a.odd) (lt-ltb a.nodes a.v.id c.if-nodes-v.true)))

pub returns-else-nodes-v : goal.returns-else-nodes-v
returns-else-nodes-v c =
    λ sup r. let a = c.args in
    let p = c.parts-give.ensures in
    node_next a.nodes sup _ a.odd _ _ _ r (a.v.id - 1) (omega (arith, c.if-v-lt1.false)) (omega (arith, c.if-v-gt32.false, c.if-v-lt1.false))
    _ _ c.if-marks-i-gt0.false (p.is ∙ signed_stored a.v.supply c.requires) p.way p.give_small p.take_small _ (sym (ap (λ (b : Bool). b || a.odd) (le-ltb a.nodes a.v.id c.if-nodes-v.false)))
