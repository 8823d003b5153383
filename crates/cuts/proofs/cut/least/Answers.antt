-- `cuts::cut::least` meets its contract. Assumes nothing.
use native.Mathlib.Omega.{arith}
use Rattle.cuts.proofs.CutSteps.{low_end}
use Rattle.cuts.proofs.cut.least.Goals as goal

pub overflow_cast-part : goal.overflow_cast-part
overflow_cast-part c = omega (arith, c.requires.few)

pub lowest-far-requires : goal.lowest-far-requires
lowest-far-requires c = c.requires

pub returns-then-from-far : goal.returns-then-from-far
returns-then-from-far c = low_end c.requires.few c.lowest-far.ensures c.if-from-far.true (omega arith)

pub overflow_add-node : goal.overflow_add-node
overflow_add-node c = omega (arith, c.place.ensures, c.requires.nodes)

pub returns : goal.returns
returns c = low_end c.requires.few c.lowest-far.ensures (omega arith) (omega (arith, c.if-from-far.false))
