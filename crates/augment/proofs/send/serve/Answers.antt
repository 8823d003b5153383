-- `augment::send::serve` meets its contract. Assumes nothing.
use mathlib.Core.Path.{refl, ap}
use Prim.Native.Nat.{◌-◌}
use native.Mathlib.Omega.{arith}
use lib.ListN.{set}
use lib.Bits.{bit_or}
use Rattle.residual.specs.inner.Network.{get}
use Rattle.residual.proofs.Bits.{power_fits}
use Rattle.augment.proofs.send.serve.Goals as goal

pub overflow_cast-serves : goal.overflow_cast-serves
overflow_cast-serves c = omega (arith, c.requires.1 c.if-v-ge32.true)

pub overflow_shl-serves : goal.overflow_shl-serves
overflow_shl-serves c = c.requires.1 c.if-v-ge32.true

pub returns-then-v-ge32 : goal.returns-then-v-ge32
returns-then-v-ge32 c =
    record {
      less = λ l. absurd (omega (arith, c.if-v-ge32.true));
      more = λ l.
          ap (λ z. set c.args.serves.now (c.args.v - 32) (bit_or (get c.args.serves.now (c.args.v - 32)) z))
          (power_fits c.args.w (c.requires.1 c.if-v-ge32.true));
    }

pub returns-else-v-ge32 : goal.returns-else-v-ge32
returns-else-v-ge32 c = record { less = λ l. refl; more = λ l. absurd (omega (arith, c.if-v-ge32.false)) }
