-- `engine_arrays::work::copy_rows` meets its contract. The invariant: the first i rows are copied. Assumes nothing.
use mathlib.Core.Path.{◌≡◌, refl, sym, ◌∙◌}
use Prim.Native.Nat.{◌≤◌, ◌-◌, ◌+◌}
use native.Mathlib.Nat.{zero-mul}
use native.Mathlib.Omega.{arith}
use lib.ListN.{length}
use Rattle.engine_arrays.proofs.CellCopies.{move_start, move_next, move_end, kept_end, part_size, narrow_part, row_within, row_start}
use Rattle.engine_arrays.proofs.work.copy_rows.Goals.{In-loop-i}
use Rattle.engine_arrays.proofs.work.copy_rows.Goals as goal

-- the row of this pass lies within the ceilings
fits : (c : In-loop-i) → c.loop-i.start + c.args.n ≤ length c.args.ceilings.now
fits c = row_within c.args.m c.loop-i.i _ _ _ c.loop-i-test.true c.loop-i.invariant.2 (omega (arith, c.requires.2))

pub loop-i-init : goal.loop-i-init
loop-i-init c = (move_start _ _ _ _ _, omega arith, sym (zero-mul _))

pub overflow_add-end : goal.overflow_add-end
overflow_add-end c = omega (arith, fits (goal.at.overflow_add-end c).In-loop-i)

pub offset_bounds-ceilings-start : goal.offset_bounds-ceilings-start
offset_bounds-ceilings-start c = omega (arith, fits (goal.at.offset_bounds-ceilings-start c).In-loop-i)

pub slice_bounds-copy_into-count : goal.slice_bounds-copy_into-count
slice_bounds-copy_into-count c = omega arith

pub slice_bounds-copy_into-start : goal.slice_bounds-copy_into-start
slice_bounds-copy_into-start c = omega arith

pub slice_bounds-copy_into-end : goal.slice_bounds-copy_into-end
slice_bounds-copy_into-end c = omega (arith, fits (goal.at.slice_bounds-copy_into-end c).In-loop-i)

pub overflow_mul-i : goal.overflow_mul-i
overflow_mul-i c = omega (arith, c.requires.0)

pub copy_into-requires : goal.copy_into-requires
copy_into-requires c =
    let h = fits (goal.at.copy_into-requires c).In-loop-i in
    let s = part_size c.loop-i.start c.args.n c.args.ceilings.now h in (
      omega (arith, s, c.loop-i.invariant.0.long, c.requires.0, c.requires.1, c.requires.3),
      narrow_part c.loop-i.start c.args.n c.args.ceilings.now h c.requires.4,
    )

pub overflow_step-i : goal.overflow_step-i
overflow_step-i c = omega arith

pub loop-i-smaller : goal.loop-i-smaller
loop-i-smaller c = omega arith

pub loop-i-preserved : goal.loop-i-preserved
loop-i-preserved c = (
  move_next _ _ c.loop-i.invariant.0 c.requires.1 c.loop-i.invariant.2 refl (fits (goal.at.loop-i-preserved c).In-loop-i) c.copy_into.ensures,
  omega arith,
  row_start _ _ _ c.loop-i.invariant.2,
)

pub returns : goal.returns
returns c =
    let q = c.loop-i.invariant.0 in
    let h : c.args.m ≡ c.loop-i.i = omega arith in
    (move_end q c.loop-i-test.false, q.long ∙ c.requires.3, kept_end q h)
