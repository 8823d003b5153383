-- `csv_plan::put_lanes` meets its contract. Assumes nothing.
use mathlib.Core.Path.{sym, subst}
use Prim.Native.Nat.{ℕ, ◌+◌, ◌*◌, ◌≤◌}
use native.Mathlib.Omega.{arith}
use native.Mathlib.Nat.{zero-mul}
use Rattle.csv_print.specs.Text.{row_text, lanes_text}
use Rattle.csv_print.specs.inner.Writing.{Written}
use Rattle.csv_print.proofs.DecimalTexts.{each_start, each_next, each_end, widen, written_length, row_within, printable_row, next_start}
use Rattle.csv_plan.proofs.put_lanes.Goals.{In-loop-i}
use Rattle.csv_plan.proofs.put_lanes.Goals as goal

-- this source's lanes are among all lanes
within : (c : In-loop-i) → let a = c.args in c.loop-i.start + a.n ≤ a.m * a.n
within c = let a = c.args in row_within a.m a.n c.loop-i.i c.loop-i.start c.loop-i-test.true c.loop-i.invariant.1

pub loop-i-init : goal.loop-i-init
loop-i-init c = (omega arith, sym (zero-mul c.args.n), each_start _ 5440 _ _)

pub put_row-next-requires : goal.put_row-next-requires
put_row-next-requires c = record { at_bound = (omega (arith, c.requires, c.loop-i.invariant.2, c.loop-i-test.true), omega (arith, c.requires, c.loop-i-test.true), c.requires.at_bound.2); printable = printable_row _ _ _ _ _ (within (goal.at.put_row-next-requires c).In-loop-i) c.requires.printable }

pub overflow_add-start : goal.overflow_add-start
overflow_add-start c = omega (arith, within (goal.at.overflow_add-start c).In-loop-i, c.requires.printable)

pub loop-i-preserved : goal.loop-i-preserved
loop-i-preserved c =
    let a = c.args in
    let l = c.loop-i in
    let row = widen {l = 5440} (omega (arith, c.requires)) c.put_row-next.ensures in (
      omega (arith, c.loop-i-test.true),
      next_start a.n l.i l.start l.invariant.1,
      each_next _ 5440 _ l.invariant.2
          (subst (λ (x : ℕ). Written l.out c.put_row-next.new.out l.next c.put_row-next.result (row_text a.costs.now a.plan.now a.n l.i x) 5440)
          l.invariant.1 row),
    )

pub shape_of-out : goal.shape_of-out
shape_of-out c = written_length c.loop-i.invariant.2

pub returns : goal.returns
unfolding lanes_text
returns c = each_end _ 5440 _ _ c.loop-i.invariant.0 c.loop-i-test.false c.loop-i.invariant.2
