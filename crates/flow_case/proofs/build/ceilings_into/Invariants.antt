-- `flow_case::build::ceilings_into` meets its contract. Assumes nothing.
use mathlib.Core.Path.{◌≡◌}
use Prim.Native.Nat.{◌*◌, ◌≤◌}
use Rattle.flow_case.specs.inner.Build.{into}
use Rattle.flow_case.proofs.build.ceilings_into.Given as goal

abbrev pub invariant-loop-j : goal.invariant-loop-j
invariant-loop-j l = (l.sum ≡ into l.ends l.ceilings l.id l.j) × (l.sum ≤ 4000 * l.j)
