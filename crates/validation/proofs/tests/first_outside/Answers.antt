-- `validation::tests::first_outside` meets its contract. Assumes nothing.
use mathlib.Core.Path.{◌≡◌, ◌∙◌, ap, sym}
use Prim.Native.Nat.{◌+◌, ◌≤◌}
use native.Mathlib.Nat.{zero-mul, suc-mul}
use native.Mathlib.Numerals.{add-one}
use lib.IntN.{pos}
use native.Mathlib.Omega.{arith}
use lib.ListN.{length, get_or, length-take, length-drop}
use Rattle.problem.proofs.FirstFailing.{outside_none, outside_some}
use Rattle.problem.proofs.CellRows.{row_end, rows_end, more}
use Rattle.problem.proofs.RaisedLists.{rate_at}
use Rattle.problem.proofs.MachineIntegers.{read_back}
use Rattle.problem.specs.Range.{outside}
use Rattle.validation.proofs.tests.first_outside.Goals.{After-out_of_range, In-loop-i}
use Rattle.validation.proofs.tests.first_outside.Goals as goal

-- the row of this pass lies within the costs
row_fits : (c : In-loop-i) → c.loop-i.start + c.args.n ≤ length c.args.costs.now
row_fits c =
    row_end c.args.m c.args.n c.loop-i.i c.loop-i.start _
    c.loop-i-test.true c.loop-i.invariant.0 c.requires

pub loop-i-init : goal.loop-i-init
loop-i-init c = (omega (arith, zero-mul c.args.n), λ k h. absurd (omega arith))

pub overflow_add-end : goal.overflow_add-end
overflow_add-end c = omega (arith, row_fits (goal.at.overflow_add-end c).In-loop-i)

pub offset_bounds-costs-start : goal.offset_bounds-costs-start
offset_bounds-costs-start c = omega (arith, row_fits (goal.at.offset_bounds-costs-start c).In-loop-i)

pub slice_bounds-row-end : goal.slice_bounds-row-end
slice_bounds-row-end c = omega (arith, row_fits (goal.at.slice_bounds-row-end c).In-loop-i)

pub loop-j-init : goal.loop-j-init
loop-j-init c = λ k h. c.loop-i.invariant.1 k (omega arith)

pub offset_bounds-row-j : goal.offset_bounds-row-j
offset_bounds-row-j c = omega (arith, row_fits (goal.at.offset_bounds-row-j c).In-loop-i)

pub bounds-row-j : goal.bounds-row-j
bounds-row-j c = simp (length-take, length-drop) (omega (arith, row_fits (goal.at.bounds-row-j c).In-loop-i))

-- what the test says of the lane
lane : (c : After-out_of_range)
    → c.out_of_range.result ≡
    outside (get_or c.args.costs.now
    (c.loop-i.start + c.loop-j.j) (pos 0))
lane c =
    c.out_of_range.ensures ∙ ap outside (read_back _ c.out_of_range-arg-1.given ∙ rate_at _ _ _ _ c.loop-j-test.true)

pub overflow_add-result : goal.overflow_add-result
overflow_add-result c = omega (arith, row_fits (goal.at.overflow_add-result c).In-loop-i)

pub loop-j-preserved : goal.loop-j-preserved
loop-j-preserved c = more _ _ _ c.loop-j.invariant (sym (lane (goal.at.loop-j-preserved c).After-out_of_range) ∙ c.if-out_of_range.false)

pub loop-i-preserved : goal.loop-i-preserved
loop-i-preserved c = (
  omega (arith, suc-mul c.loop-i.i c.args.n, add-one c.loop-i.i),
  λ k h. c.loop-j.invariant k (omega arith),
)

pub returns-then-out_of_range : goal.returns-then-out_of_range
returns-then-out_of_range c =
    sym
    (outside_some _ (c.loop-i.start + c.loop-j.j)
    (omega (arith, row_fits (goal.at.returns-then-out_of_range c).In-loop-i))
    c.loop-j.invariant
    (sym (lane (goal.at.returns-then-out_of_range c).After-out_of_range) ∙ c.if-out_of_range.true))

pub returns-after-loop-i : goal.returns-after-loop-i
returns-after-loop-i c =
    let all = rows_end c.args.m _ c.loop-i.i _ _ c.loop-i-test.false c.loop-i.invariant.0 c.requires
    in sym (outside_none _ (λ k h. c.loop-i.invariant.1 k (omega arith)))
