-- `engine_arrays::work::raise_into` meets its contract. The invariant: the first k cells are written. Assumes nothing.
use mathlib.Core.List.{map}
use Prim.Native.Nat.{◌≤◌, ◌-◌}
use lib.ListN.{length}
use Rattle.problem.specs.Range.{raised_of}
use Rattle.engine_arrays.proofs.CellCopies.{Copying}
use Rattle.engine_arrays.proofs.work.raise_into.Given as goal

abbrev pub invariant-loop-k : goal.invariant-loop-k
invariant-loop-k l = Copying (map raised_of l.source) l.at l.k l.initial.to l.to × (l.k ≤ length l.source)
