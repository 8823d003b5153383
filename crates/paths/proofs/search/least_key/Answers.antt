-- `paths::search::least_key` meets its contract. Assumes nothing.
use Prim.Native.Nat.{◌-◌}
use native.Mathlib.Omega.{arith}
use Rattle.paths.proofs.NearestNode.{least_start, least_next, least_end}
use Rattle.paths.proofs.search.least_key.Goals as goal

pub loop-v-init : goal.loop-v-init
loop-v-init c = (omega arith, omega (arith, c.requires), least_start _ _)

pub loop-v-preserved : goal.loop-v-preserved
loop-v-preserved c = let inv = c.loop-v.invariant in (omega (arith, inv.0), omega (arith, c.loop-v-test.true), least_next inv.2 inv.0 c.min-least.ensures)

pub returns : goal.returns
returns c = least_end c.loop-v.invariant.2 c.loop-v-test.false c.loop-v.invariant.1
