-- `engine_arrays::work::copy_rows` meets its contract. The invariant: the first i rows are copied. Assumes nothing.
use mathlib.Core.Path.{◌≡◌}
use Prim.Native.Nat.{◌≤◌, ◌-◌, ◌*◌}
use Rattle.engine_arrays.proofs.CellCopies.{Moving}
use Rattle.engine_arrays.proofs.work.copy_rows.Given as goal

abbrev pub invariant-loop-i : goal.invariant-loop-i
invariant-loop-i l = Moving l.n l.n 64 l.i l.ceilings l.initial.to l.to × (l.i ≤ l.m) × (l.start ≡ l.i * l.n)

abbrev pub decreases-loop-i : goal.decreases-loop-i
decreases-loop-i l = l.m - l.i
