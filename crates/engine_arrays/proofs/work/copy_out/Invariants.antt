-- `engine_arrays::work::copy_out` meets its contract. The invariant: the first k cells are copied. Assumes nothing.
use Prim.Native.Nat.{◌-◌}
use lib.ListN.{length}
use Rattle.engine_arrays.proofs.CellCopies.{Copying}
use Rattle.engine_arrays.proofs.work.copy_out.Given as goal

abbrev pub invariant-loop-k : goal.invariant-loop-k
invariant-loop-k l = Copying l.cells l.at l.k l.initial.to l.to
