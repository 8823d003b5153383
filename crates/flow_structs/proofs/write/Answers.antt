-- `flow_structs::write` meets its contract. Assumes nothing.
use Rattle.std.proofs.Common.{arith, add-one, sym}
use Rattle.flow_arcs.specs.Lent.{arc_at}
use Rattle.flow_structs.proofs.WrittenFront.{front_none, front_next}
use Rattle.flow_structs.proofs.write.Goals as goal

pub loop-i-init : goal.loop-i-init
loop-i-init c = sym (front_none (arc_at c.args.found.now) c.args.arcs.now)

pub loop-i-preserved : goal.loop-i-preserved
loop-i-preserved c =
    rw (c.loop-i.invariant, c.arc.ensures, add-one) (front_next (arc_at c.args.found.now) c.loop-i.i c.args.arcs.now (omega (arith, c.loop-i-test.true, c.requires.1)))
