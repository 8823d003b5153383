-- `reachability::reach::seen` meets its contract. Assumes nothing.
use borrow.Author.Tests.{eqb-true}
use Rattle.reachability.proofs.MaskBits.{none_common}
use Rattle.reachability.proofs.reach.seen.Goals as goal

pub returns : goal.returns
returns c = record { none = λ e i h. none_common _ _ i (eqb-true _ _ e) h }
