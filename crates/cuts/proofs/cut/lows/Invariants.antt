-- `cuts::cut::lows` meets its contract. Assumes nothing.
use Prim.Native.Nat.{◌^◌, ◌<◌}
use Rattle.cuts.specs.inner.Cut.{Lows}
use Rattle.cuts.proofs.cut.lows.Given as goal

abbrev pub invariant-loop-left : goal.invariant-loop-left
invariant-loop-left l = Lows l.part l.at l.stride l.first l.table l.weight l.left l.acc × (l.left < 2 ^ 64)

abbrev pub decreases-loop-left : goal.decreases-loop-left
decreases-loop-left l = l.left
