-- `cuts::cut::leaving` meets its contract. Assumes nothing.
use Prim.Native.Nat.{◌^◌, ◌<◌}
use Rattle.cuts.specs.inner.Cut.{ExitTo}
use Rattle.cuts.proofs.cut.leaving.Given as goal

abbrev pub invariant-loop-left : goal.invariant-loop-left
invariant-loop-left l = ExitTo l.lanes.n l.inside l.cols l.lanes.cost.now l.x l.serves l.pot l.left l.far.key × (l.left < 2 ^ l.lanes.n)

abbrev pub decreases-loop-left : goal.decreases-loop-left
decreases-loop-left l = l.left
