-- `lastsplit::reach::wide_bit` meets its contract. Assumes nothing.
use Prim.Native.Nat.{◌+◌, ◌-◌, ◌%◌}
use native.Mathlib.Omega.{arith}
use lib.Bits.{and_le_l, and_le_r}
use Rattle.lastsplit.proofs.reach.wide_bit.Goals as goal

pub returns : goal.returns
returns c =
    let d = c.args.demand in
    let spare = c.args.ceiling % 2147483648 + 2147483648 - d % 2147483648 in
    λ h. omega (arith, and_le_l spare (4294967295 - d), and_le_r spare (4294967295 - d))
