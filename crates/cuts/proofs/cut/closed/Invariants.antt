-- `cuts::cut::closed` meets its contract. Assumes nothing.
use Prim.Native.Nat.{◌^◌, ◌<◌}
use Rattle.cuts.specs.inner.Cut.{Gathered}
use Rattle.cuts.proofs.cut.closed.Given as goal

abbrev pub invariant-loop-left : goal.invariant-loop-left
invariant-loop-left l = Gathered l.n l.cols l.serves l.left l.out × (l.left < 2 ^ 64)

abbrev pub decreases-loop-left : goal.decreases-loop-left
decreases-loop-left l = l.left
