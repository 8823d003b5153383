-- `paths::search::prefer` meets its contract. Assumes nothing.
use Prim.Native.Nat.{◌-◌}
use Rattle.residual.specs.inner.Keys.{Bits}
use Rattle.paths.proofs.search.prefer.Given as goal

abbrev pub invariant-loop-j : goal.invariant-loop-j
invariant-loop-j l = Bits l.full

abbrev pub decreases-loop-j : goal.decreases-loop-j
decreases-loop-j l = 64 - l.j
