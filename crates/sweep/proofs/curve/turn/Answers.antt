-- `sweep::curve::turn` meets its contract. Assumes nothing.
use Rattle.std.proofs.Common.{eq-eqb, ne_eqb}
use Rattle.sweep.proofs.curve.turn.Goals as goal

pub returns-then-y-lo : goal.returns-then-y-lo
returns-then-y-lo c = let e = eq-eqb c.args.y c.args.lo c.if-y-lo.true in rw e

pub returns-else-y-lo : goal.returns-else-y-lo
returns-else-y-lo c = let e = ne_eqb c.args.y c.args.lo c.if-y-lo.false in rw e
