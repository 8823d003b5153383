-- `bounded::start::rest` meets its contract. The fine and the full lanes stay. Assumes nothing.
use Rattle.std.proofs.Common.{◌≡◌}
use Rattle.bounded.proofs.start.rest.Given as goal

abbrev pub invariant-loop-j : goal.invariant-loop-j
invariant-loop-j l = (l.lanes.fine ≡ l.fn.lanes.fine) × (l.lanes.full ≡ l.fn.lanes.full)
