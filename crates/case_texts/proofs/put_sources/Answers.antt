-- `case_texts::put_sources` meets its contract. Assumes nothing.
use native.Mathlib.Omega.{arith}
use native.Mathlib.Nat.{zero-mul}
use Rattle.csv_print.proofs.DecimalTexts.{each_start, each_next, each_end, written_length, row_within, next_start}
use Rattle.case_texts.specs.Texts.{sources_text}
use Rattle.case_texts.proofs.SourceRecord.{source_written}
use Rattle.case_texts.proofs.put_sources.Goals as goal

pub loop-i-init : goal.loop-i-init
loop-i-init c = (omega arith, omega (arith, zero-mul c.args.n), each_start _ 1366 _ _)

pub put_costs-end-requires : goal.put_costs-end-requires
put_costs-end-requires c =
    let w = row_within c.args.m c.args.n c.loop-i.i c.loop-i.start c.loop-i-test.true c.loop-i.invariant.1 in record { at_bound = (omega (arith, c.requires.m_bound, c.loop-i.invariant), c.requires.m_bound.1); n_in_bounds = omega (arith, w, c.requires.n_in_bounds) }

pub offset_bounds-supplies-i : goal.offset_bounds-supplies-i
offset_bounds-supplies-i c = omega (arith, c.requires, c.loop-i-test.true)

pub bounds-supplies-i : goal.bounds-supplies-i
bounds-supplies-i c =
    omega (arith, c.requires, c.loop-i-test.true)

pub put_line-next-requires : goal.put_line-next-requires
put_line-next-requires c =
    omega (arith, c.requires.m_bound, c.loop-i.invariant, c.put_costs-end.ensures)

pub overflow_add-start : goal.overflow_add-start
overflow_add-start c =
    let l = c.loop-i in
    let w = row_within c.args.m c.args.n l.i l.start c.loop-i-test.true l.invariant.1 in
    omega (arith, w, c.requires.n_in_bounds)

pub overflow_step-i : goal.overflow_step-i
overflow_step-i c =
    omega (arith, c.requires, c.loop-i-test.true)

pub loop-i-smaller : goal.loop-i-smaller
loop-i-smaller c = omega (arith, c.loop-i-test.true)

pub loop-i-preserved : goal.loop-i-preserved
loop-i-preserved c =
    let l = c.loop-i in (
      omega (arith, c.loop-i-test.true),
      next_start c.args.n l.i l.start l.invariant.1,
      each_next _ 1366 _ l.invariant.2 (source_written _ _ c.args.n l.start l.i l.invariant.1 c.requires.m_bound.1 c.put_costs-end.ensures c.put_line-next.ensures),
    )

pub shape_of-out : goal.shape_of-out
shape_of-out c = written_length c.loop-i.invariant.2

pub returns : goal.returns
unfolding sources_text
returns c = each_end _ 1366 _ _ c.loop-i.invariant.0 c.loop-i-test.false c.loop-i.invariant.2
