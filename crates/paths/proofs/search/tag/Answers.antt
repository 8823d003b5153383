-- `paths::search::tag` meets its contract. Assumes nothing.
use Prim.Native.Nat.{◌-◌}
use native.Mathlib.Omega.{arith}
use Rattle.paths.proofs.NodeTags.{tag_step, tag_end}
use Rattle.paths.proofs.search.tag.Goals as goal

pub loop-v-init : goal.loop-v-init
loop-v-init c = record { long_full = c.requires.0; long_want = c.requires.1; bit = λ v h. absurd (omega arith); whole = λ v h. absurd (omega arith) }

pub loop-v-preserved : goal.loop-v-preserved
loop-v-preserved c = tag_step c.loop-v.invariant (omega arith) c.full_bit.ensures c.whole.ensures

pub returns : goal.returns
returns c = tag_end c.loop-v.invariant (omega arith)
