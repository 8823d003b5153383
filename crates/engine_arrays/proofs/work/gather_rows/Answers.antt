-- `engine_arrays::work::gather_rows` meets its contract. The invariant: the first i rows are copied. Assumes nothing.
use mathlib.Core.Path.{◌≡◌, refl, sym}
use Prim.Native.Nat.{◌≤◌, ◌-◌, ◌+◌, ◌*◌}
use native.Mathlib.Nat.{zero-mul}
use native.Mathlib.Omega.{arith}
use lib.ListN.{length}
use Rattle.engine_arrays.proofs.CellCopies.{move_start, move_next, move_end, part_size, row_within, row_start}
use Rattle.engine_arrays.proofs.work.gather_rows.Goals.{In-loop-i}
use Rattle.engine_arrays.proofs.work.gather_rows.Goals as goal

-- the row of this pass has room in the slice
fits : (c : In-loop-i) → c.loop-i.at + c.args.n ≤ length c.args.to.now
fits c =
    row_within c.args.m c.loop-i.i _ _ _ c.loop-i-test.true c.loop-i.invariant.2 c.requires.2

-- and lies within the working array
inside : (c : In-loop-i) → c.loop-i.i * 64 + c.args.n ≤ length c.args.cells.now
inside c =
    omega (arith, c.requires.0, c.requires.1, c.all-1.given)

pub loop-i-init : goal.loop-i-init
loop-i-init c = (move_start _ _ _ _ _, omega arith, sym (zero-mul _))

pub overflow_mul-start : goal.overflow_mul-start
overflow_mul-start c = omega (arith, c.requires.0)

pub overflow_add-end : goal.overflow_add-end
overflow_add-end c = omega (arith, c.requires.0, c.requires.1)

pub offset_bounds-all-start : goal.offset_bounds-all-start
offset_bounds-all-start c = omega (arith, c.requires.0)

pub slice_bounds-copy_out-count : goal.slice_bounds-copy_out-count
slice_bounds-copy_out-count c = omega arith

pub slice_bounds-copy_out-start : goal.slice_bounds-copy_out-start
slice_bounds-copy_out-start c = omega arith

pub slice_bounds-copy_out-end : goal.slice_bounds-copy_out-end
slice_bounds-copy_out-end c =
    omega (arith, c.requires.0, c.requires.1, c.all-1.given)

pub copy_out-requires : goal.copy_out-requires
copy_out-requires c =
    let s = part_size (c.loop-i.i * 64) c.args.n c.args.cells.now (inside (goal.at.copy_out-requires c).In-loop-i) in
    omega (arith, s, fits (goal.at.copy_out-requires c).In-loop-i, c.loop-i.invariant.0.long)

pub overflow_add-at : goal.overflow_add-at
overflow_add-at c = omega (arith, fits (goal.at.overflow_add-at c).In-loop-i)

pub overflow_step-i : goal.overflow_step-i
overflow_step-i c = omega arith

pub loop-i-smaller : goal.loop-i-smaller
loop-i-smaller c = omega arith

pub loop-i-preserved : goal.loop-i-preserved
loop-i-preserved c = (
  move_next _ _ c.loop-i.invariant.0 (omega arith) refl c.loop-i.invariant.2 (inside (goal.at.loop-i-preserved c).In-loop-i) c.copy_out.ensures,
  omega arith,
  row_start _ _ _ c.loop-i.invariant.2,
)

pub shape_of-to : goal.shape_of-to
shape_of-to c = c.loop-i.invariant.0.long

pub returns : goal.returns
returns c =
    let q = c.loop-i.invariant.0 in
    let h : c.args.m ≡ c.loop-i.i = omega arith in
    (move_end q c.loop-i-test.false, q.long, λ k l. q.rest k (rw (← h) l))
