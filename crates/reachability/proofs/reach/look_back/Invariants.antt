-- `reachability::reach::look_back` meets its contract. Assumes nothing.
use Rattle.reachability.proofs.Reachability.{LookingBack}
use Rattle.reachability.proofs.reach.look_back.Given as goal

abbrev pub invariant-loop-rest : goal.invariant-loop-rest
invariant-loop-rest l =
    LookingBack l.m l.n l.j l.goal l.free l.x l.start l.limit l.front.supplied l.front.terminals l.front.sources l.front.wait l.prev l.serves l.sources l.wait l.rest

abbrev pub decreases-loop-rest : goal.decreases-loop-rest
decreases-loop-rest l = l.rest
