-- `reachability::reach::unserved` meets its contract. Assumes nothing.
use Rattle.reachability.proofs.MaskBits.{none_but}
use borrow.Author.Tests.{eqb-true}
use Rattle.residual.specs.inner.Network.{get}
use Rattle.reachability.proofs.reach.unserved.Goals as goal

pub returns : goal.returns
returns c = let a = c.args in
    record { none = λ e. none_but a.start (get a.serves.now a.j) c.requires.0 (eqb-true _ _ e) }
