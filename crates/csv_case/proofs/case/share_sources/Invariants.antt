-- `csv_case::case::share_sources` meets its contract. Assumes nothing.
use Prim.Native.Nat.{◌-◌}
use Rattle.csv_case.proofs.RecordShares.{Sharing}
use Rattle.csv_case.proofs.case.share_sources.Given as goal

abbrev pub invariant-loop-i : goal.invariant-loop-i
invariant-loop-i l = Sharing l.cells l.m l.n l.initial.costs l.initial.supplies l.costs l.supplies l.start l.at l.i

abbrev pub decreases-loop-i : goal.decreases-loop-i
decreases-loop-i l = l.m - l.i
