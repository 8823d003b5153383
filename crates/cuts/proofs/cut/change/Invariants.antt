-- `cuts::cut::change` meets its contract. Assumes nothing.
use Prim.Native.Nat.{◌^◌, ◌<◌}
use Rattle.cuts.specs.inner.Cut.{Changed}
use Rattle.cuts.proofs.cut.change.Given as goal

abbrev pub invariant-loop-left : goal.invariant-loop-left
invariant-loop-left l = Changed l.part l.first l.up l.down l.initial.pot l.left l.pot × (l.left < 2 ^ 64)

abbrev pub decreases-loop-left : goal.decreases-loop-left
decreases-loop-left l = l.left
