-- `reachability::reach::drop_source` meets its contract. Assumes nothing.
use mathlib.Core.Path.{ap}
use Prim.Native.Nat.{◌-◌, ◌^◌}
use lib.ListN.{set}
use lib.Bits.{bit_and}
use Rattle.residual.specs.inner.Network.{get}
use Rattle.residual.proofs.Bits.{power_fits}
use Rattle.reachability.proofs.reach.drop_source.Goals as goal

pub returns : goal.returns
returns c = let a = c.args in
    record { same = ap (λ z. set a.serves.now a.j (bit_and (get a.serves.now a.j) (2 ^ 32 - 1 - z))) (power_fits a.i c.requires.0) }
