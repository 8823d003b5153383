-- `canonical::canon::part` meets its contract. Assumes nothing.
use Prim.Native.Nat.{◌-◌}
use native.Mathlib.Omega.{arith}
use Rattle.canonical.proofs.LaneStores.{part_skip, kept_none, kept_both}
use Rattle.canonical.proofs.canon.part.Goals as goal

pub loop-i-init : goal.loop-i-init
loop-i-init c = (omega arith, part_skip c.requires.parted_to (λ a b ha hb l. omega arith) (omega arith), kept_none)

pub part_row-requires : goal.part_row-requires
part_row-requires c = record { i_lt_m = c.loop-i-test.true; part_ready = c.requires.part_ready; parted_to = c.loop-i.invariant.1 }

pub loop-i-preserved : goal.loop-i-preserved
loop-i-preserved c =
    let q = c.loop-i.invariant in let d = c.part_row.ensures in
    (omega arith, part_skip d.parted_to_2 (λ a b ha hb l. omega arith) (omega arith), kept_both q.2 d.kept)

pub returns : goal.returns
returns c = let q = c.loop-i.invariant in record { parted_to_2 = part_skip q.1 (λ a b ha hb l. omega (arith, c.loop-i-test.false)) (omega arith); kept = q.2 }
