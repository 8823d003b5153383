-- `work_edits::costs::raise_cells` meets its contract. The invariant: the first k cells are written. Assumes nothing.
use mathlib.Core.Path.{ap, ◌∙◌}
use native.Mathlib.Omega.{arith}
use lib.ListN.{length-map}
use Rattle.problem.specs.Range.{outside, raised_of}
use Rattle.problem.proofs.MachineIntegers.{read_back}
use Rattle.work_store.proofs.RangeCopies.{filling_start, filling_length, filling_end}
use Rattle.work_store.proofs.CostLaws.{raise_next, raise_fits}
use Rattle.work_edits.proofs.costs.raise_cells.Goals as goal

pub loop-k-init : goal.loop-k-init
loop-k-init c = filling_start _ _ _ (raise_fits c.args.source.now _ _ c.requires.0)

pub raised-requires : goal.raised-requires
raised-requires c = ap outside (read_back _ c.raised-arg-1.given) ∙ c.requires.1 _ c.loop-k-test.true

pub overflow_add-store : goal.overflow_add-store
overflow_add-store c = omega (arith, c.requires.0)

pub offset_bounds-store-at : goal.offset_bounds-store-at
offset_bounds-store-at c = omega (arith, c.requires.0)

pub bounds-store-at : goal.bounds-store-at
bounds-store-at c =
    omega (arith, c.requires.0, filling_length _ _ _ (raise_fits c.args.source.now _ _ c.requires.0) _ _ c.loop-k.invariant)

pub loop-k-preserved : goal.loop-k-preserved
loop-k-preserved c =
    raise_next c.args.source.now _ _ _ _ _ c.loop-k.invariant c.requires.0 c.loop-k-test.true
    (c.raised.ensures ∙ ap raised_of (read_back _ c.raised-arg-1.given))

pub shape_of-store : goal.shape_of-store
shape_of-store c = filling_length _ _ _ (raise_fits c.args.source.now _ _ c.requires.0) _ _ c.loop-k.invariant

pub returns : goal.returns
returns c =
    filling_end _ _ _ (raise_fits c.args.source.now _ _ c.requires.0) _ _ c.loop-k.invariant (omega (arith, length-map c.args.source.now raised_of, c.loop-k-test.false))
