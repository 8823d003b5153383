-- `cuts::cut::least_out` meets its contract. Assumes nothing.
use Prim.Native.Nat.{◌^◌, ◌<◌}
use Rattle.cuts.specs.inner.Cut.{OutTo}
use Rattle.cuts.proofs.cut.least_out.Given as goal

abbrev pub invariant-loop-left : goal.invariant-loop-left
invariant-loop-left l = OutTo l.j l.from l.cost l.x l.pot l.initial.far.key l.left l.far.key × (l.left < 2 ^ 32)

abbrev pub decreases-loop-left : goal.decreases-loop-left
decreases-loop-left l = l.left
