-- `residual::relax::offer` meets its contract. Assumes nothing.
use Rattle.residual.proofs.Relaxation.{offer_made}
use Rattle.residual.proofs.relax.offer.Goals as goal

pub returns : goal.returns
returns c = offer_made _ _ _ _ _ _ _ _ c.pick.ensures c.pick-2.ensures c.pick-3.ensures
