-- `reachability::reach::look_ahead` meets its contract. Assumes nothing.
use Rattle.reachability.proofs.Reachability.{LookingAhead}
use Rattle.reachability.proofs.reach.look_ahead.Given as goal

abbrev pub invariant-loop-rest : goal.invariant-loop-rest
invariant-loop-rest l =
    LookingAhead l.m l.n l.i l.goal l.free l.x l.start l.limit l.initial.now.sources l.initial.now.wait l.prev l.serves l.now.supplied l.now.terminals l.now.sources l.now.wait l.rest

abbrev pub decreases-loop-rest : goal.decreases-loop-rest
decreases-loop-rest l = l.rest
