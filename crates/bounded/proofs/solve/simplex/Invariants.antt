-- `bounded::solve::simplex` meets its contract. The fine stays. Assumes nothing.
use Rattle.std.proofs.Common.{◌≡◌}
use Rattle.bounded.proofs.solve.simplex.Given as goal

abbrev pub invariant-loop : goal.invariant-loop
invariant-loop l = l.lanes.fine ≡ l.fn.lanes.fine
