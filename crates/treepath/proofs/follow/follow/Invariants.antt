-- `treepath::follow::follow` meets its contract. Assumes nothing.
use Prim.Native.Nat.{◌%◌}
use Rattle.residual.specs.inner.Network.{net, get}
use Rattle.treepath.proofs.TreeWalk.{Walk}
use Rattle.treepath.proofs.follow.follow.Given as goal

abbrev pub invariant-loop-before : goal.invariant-loop-before
invariant-loop-before l = Walk (net l.lanes.m l.lanes.n l.lanes.cost.now l.lanes.cap.now l.flow.x) l.flow.pot (λ a. get l.parent a % 128) l.limit l.prev l.v l.before l.amount
