-- `incumbent::scan::part` meets its contract. Assumes nothing.
use native.Mathlib.Omega.{arith}
use Rattle.incumbent.specs.inner.Scan.{along}
use Rattle.incumbent.proofs.IncumbentScan.{LineRoom, line_room, line_ready}
use Rattle.incumbent.proofs.scan.part.Goals.{After-shared_slice_known-1}
use Rattle.incumbent.proofs.scan.part.Goals as goal

-- the freight where the part starts
room : (c : After-shared_slice_known-1) → LineRoom c.args.freight c.args.gain c.args.loss c.args.start
room c = line_room c.requires (omega arith)

pub overflow_mul-value : goal.overflow_mul-value
overflow_mul-value c = omega (arith, (room (goal.at.overflow_mul-value c).After-shared_slice_known-1).gains)

pub overflow_add-value : goal.overflow_add-value
overflow_add-value c = omega (arith, (room (goal.at.overflow_add-value c).After-shared_slice_known-1).value)

pub overflow_mul-value-2 : goal.overflow_mul-value-2
overflow_mul-value-2 c = omega (arith, (room (goal.at.overflow_mul-value-2 c).After-shared_slice_known-1).losses)

pub overflow_sub-value : goal.overflow_sub-value
overflow_sub-value c = (room (goal.at.overflow_sub-value c).After-shared_slice_known-1).above

pub ones-requires : goal.ones-requires
ones-requires c = line_ready c.args.start c.args.amount c.requires (omega arith) (omega (arith, (room (goal.at.ones-requires c).After-shared_slice_known-1).above))

pub returns : goal.returns
unfolding along
returns c = c.ones.ensures
