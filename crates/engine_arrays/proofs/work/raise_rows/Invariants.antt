-- `engine_arrays::work::raise_rows` meets its contract. The invariant: the first i rows are copied. Assumes nothing.
use mathlib.Core.Path.{◌≡◌}
use Prim.Native.Nat.{◌≤◌, ◌-◌, ◌*◌}
use mathlib.Core.List.{map}
use Rattle.problem.specs.Range.{raised_of}
use Rattle.engine_arrays.proofs.CellCopies.{Moving}
use Rattle.engine_arrays.proofs.work.raise_rows.Given as goal

abbrev pub invariant-loop-i : goal.invariant-loop-i
invariant-loop-i l = Moving l.n l.n 64 l.i (map raised_of l.costs) l.initial.to l.to × (l.i ≤ l.m) × (l.start ≡ l.i * l.n)

abbrev pub decreases-loop-i : goal.decreases-loop-i
decreases-loop-i l = l.m - l.i
