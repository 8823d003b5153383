-- `paths::search::prefer` meets its contract. Assumes nothing.
use Prim.Native.Nat.{◌+◌, ◌-◌}
use native.Mathlib.Omega.{arith}
use Rattle.paths.proofs.NodeTags.{bits_set}
use Rattle.paths.proofs.search.prefer.Goals as goal

pub returns-then-room-eq0 : goal.returns-then-room-eq0
returns-then-room-eq0 c = c.requires

pub loop-j-init : goal.loop-j-init
loop-j-init c = c.requires

pub lead_bit-requires : goal.lead_bit-requires
lead_bit-requires c = c.loop-j.invariant.bit (32 + c.loop-j.j) (omega (arith, c.loop-j-test.true))

pub loop-j-preserved : goal.loop-j-preserved
loop-j-preserved c = bits_set (32 + c.loop-j.j) c.loop-j.invariant c.lead_bit.ensures

pub returns : goal.returns
returns c = c.loop-j.invariant
