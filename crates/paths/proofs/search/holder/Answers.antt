-- `paths::search::holder` meets its contract. Assumes nothing.
use Prim.Native.Nat.{◌-◌}
use native.Mathlib.Omega.{arith}
use Rattle.paths.proofs.NearestNode.{held_next}
use Rattle.paths.proofs.search.holder.Goals as goal

pub loop-v-init : goal.loop-v-init
loop-v-init c = c.requires

pub offset_bounds-key-v : goal.offset_bounds-key-v
offset_bounds-key-v c = let t = c.loop-v.invariant in omega (arith, t.1, t.2)

pub bounds-key-v : goal.bounds-key-v
bounds-key-v c = let t = c.loop-v.invariant in omega (arith, t.1, t.2)

pub overflow_add-v : goal.overflow_add-v
overflow_add-v c = let t = c.loop-v.invariant in omega (arith, t.1, t.2)

pub loop-v-smaller : goal.loop-v-smaller
loop-v-smaller c = let t = c.loop-v.invariant in omega (arith, t.1, t.2)

pub loop-v-preserved : goal.loop-v-preserved
loop-v-preserved c = held_next c.args.key.now c.loop-v.invariant c.loop-v-test.true

pub returns : goal.returns
returns c = let t = c.loop-v.invariant in (omega (arith, t.1, t.2), c.loop-v-test.false)
