-- `cuts::columns::transpose_column` meets its contract. Assumes nothing.
use native.Mathlib.Omega.{arith}
use mathlib.Core.Path.{refl}
use Rattle.cuts.proofs.ByTerminal.{fill_next, fill_column}
use Rattle.cuts.proofs.columns.transpose_column.Goals as goal

pub overflow_mul-k : goal.overflow_mul-k
overflow_mul-k c = omega (arith, c.requires.transpose_ready.terminals)

pub loop-i-init : goal.loop-i-init
loop-i-init c = (omega arith, c.requires.filled)

pub overflow_mul-to : goal.overflow_mul-to
overflow_mul-to c = omega (arith, c.requires.transpose_ready.sources, c.loop-i-test.true)

pub overflow_add-to : goal.overflow_add-to
overflow_add-to c = omega (arith, c.requires.transpose_ready.sources, c.loop-i-test.true, c.requires.transpose_ready.terminals)

pub offset_bounds-cost-i : goal.offset_bounds-cost-i
offset_bounds-cost-i c = omega (arith, c.requires.transpose_ready.sources, c.loop-i-test.true, c.requires.transpose_ready.terminals)

pub bounds-cost-i : goal.bounds-cost-i
bounds-cost-i c = omega (arith, c.requires.transpose_ready.sources, c.loop-i-test.true, c.requires.transpose_ready.terminals)

pub overflow_add-to-in-loop-i : goal.overflow_add-to-in-loop-i
overflow_add-to-in-loop-i c = omega (arith, c.requires.transpose_ready.sources, c.loop-i-test.true, c.requires.transpose_ready.terminals)

pub offset_bounds-to-k : goal.offset_bounds-to-k
offset_bounds-to-k c = omega (arith, c.requires.transpose_ready.sources, c.loop-i-test.true, c.requires.transpose_ready.terminals)

pub bounds-to-k : goal.bounds-to-k
bounds-to-k c = omega (arith, c.requires.transpose_ready.sources, c.loop-i-test.true, c.requires.transpose_ready.terminals)

pub loop-i-preserved : goal.loop-i-preserved
loop-i-preserved c =
    let s = c.requires in
    let l = c.loop-i-test.true in
    (omega arith, fill_next s.transpose_ready.sources (omega (arith, s.transpose_ready.terminals)) (omega (arith, s.transpose_ready.sources)) refl (s.transpose_ready.costs _ _ l (omega arith)) c.loop-i.invariant.1)

pub returns : goal.returns
returns c = fill_column c.loop-i-test.false c.loop-i.invariant.1
