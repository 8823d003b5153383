-- `engine_arrays::work::raise_rows` meets its contract. The invariant: the first i rows are copied. Assumes nothing.
use mathlib.Core.Path.{◌≡◌, refl, sym, ◌∙◌}
use Prim.Native.Nat.{◌≤◌, ◌-◌, ◌+◌}
use native.Mathlib.Nat.{zero-mul}
use native.Mathlib.Omega.{arith}
use lib.ListN.{length, length-map}
use Rattle.problem.specs.Range.{raised_of}
use Rattle.problem.proofs.RaisedLists.{part_long, inside_part, map_part}
use Rattle.engine_arrays.proofs.CellCopies.{move_start, move_next, move_end, kept_end, row_within, row_start}
use Rattle.engine_arrays.proofs.work.raise_rows.Goals.{In-loop-i}
use Rattle.engine_arrays.proofs.work.raise_rows.Goals as goal

-- the row of this pass lies within the costs
fits : (c : In-loop-i) → c.loop-i.start + c.args.n ≤ length c.args.costs.now
fits c = row_within c.args.m c.loop-i.i _ _ _ c.loop-i-test.true c.loop-i.invariant.2 (omega (arith, c.requires.2))

pub loop-i-init : goal.loop-i-init
loop-i-init c = (move_start _ _ _ _ _, omega arith, sym (zero-mul _))

pub overflow_add-end : goal.overflow_add-end
overflow_add-end c = omega (arith, fits (goal.at.overflow_add-end c).In-loop-i)

pub offset_bounds-costs-start : goal.offset_bounds-costs-start
offset_bounds-costs-start c = omega (arith, fits (goal.at.offset_bounds-costs-start c).In-loop-i)

pub slice_bounds-raise_into-count : goal.slice_bounds-raise_into-count
slice_bounds-raise_into-count c = omega arith

pub slice_bounds-raise_into-start : goal.slice_bounds-raise_into-start
slice_bounds-raise_into-start c = omega arith

pub slice_bounds-raise_into-end : goal.slice_bounds-raise_into-end
slice_bounds-raise_into-end c = omega (arith, fits (goal.at.slice_bounds-raise_into-end c).In-loop-i)

pub overflow_mul-i : goal.overflow_mul-i
overflow_mul-i c = omega (arith, c.requires.0)

pub raise_into-requires : goal.raise_into-requires
raise_into-requires c =
    let h = fits (goal.at.raise_into-requires c).In-loop-i in
    let s = part_long c.loop-i.start c.args.n c.args.costs.now h in (
      omega (arith, s, c.loop-i.invariant.0.long, c.requires.0, c.requires.1, c.requires.3),
      inside_part c.loop-i.start c.args.n c.args.costs.now h c.requires.4,
    )

pub overflow_step-i : goal.overflow_step-i
overflow_step-i c = omega arith

pub loop-i-smaller : goal.loop-i-smaller
loop-i-smaller c = omega arith

pub loop-i-preserved : goal.loop-i-preserved
loop-i-preserved c =
    let costs = c.args.costs.now in (
      move_next _ _ c.loop-i.invariant.0 c.requires.1 c.loop-i.invariant.2 refl
          (omega (arith, fits (goal.at.loop-i-preserved c).In-loop-i, length-map costs raised_of)) (rw map_part at c.raise_into.ensures),
      omega arith,
      row_start _ _ _ c.loop-i.invariant.2,
    )

pub returns : goal.returns
returns c =
    let q = c.loop-i.invariant.0 in
    let h : c.args.m ≡ c.loop-i.i = omega arith in
    (move_end q c.loop-i-test.false, q.long ∙ c.requires.3, kept_end q h)
