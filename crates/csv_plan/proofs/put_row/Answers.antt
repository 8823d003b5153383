-- `csv_plan::put_row` meets its contract. Assumes nothing.
use mathlib.Core.Path.{subst}
use mathlib.Core.List.{[], ◌∷◌}
use lib.IntN.{ℤ, pos}
use Prim.Native.Nat.{◌+◌, ◌<◌}
use native.Mathlib.Omega.{arith}
use Rattle.csv_print.proofs.PrintedSigns.{product_fits, product_stored}
use lib.ListN.{length, get_or}
use Rattle.csv_print.specs.Text.{record_text, lane_text, row_text}
use Rattle.csv_print.specs.inner.Writing.{Written}
use Rattle.csv_print.proofs.DecimalTexts.{each_start, each_next, each_end, written_length}
use Rattle.csv_plan.proofs.put_row.Goals.{In-loop-j}
use Rattle.csv_plan.proofs.put_row.Goals as goal

pub loop-j-init : goal.loop-j-init
loop-j-init c = (omega arith, each_start _ 85 _ _)

-- the lane is in both lists
inside :
    (c : In-loop-j) → let a = c.args in
    (a.start + c.loop-j.j < length a.plan.now) × (a.start + c.loop-j.j < length a.costs.now)
inside c = let p = c.requires.printable in (omega (arith, p.in_plan, c.loop-j-test.true), omega (arith, p.in_costs, c.loop-j-test.true))

pub overflow_add-k : goal.overflow_add-k
overflow_add-k c = omega (arith, inside (goal.at.overflow_add-k c).In-loop-j)

pub offset_bounds-plan-k : goal.offset_bounds-plan-k
offset_bounds-plan-k c = omega (arith, inside (goal.at.offset_bounds-plan-k c).In-loop-j)

pub bounds-plan-k : goal.bounds-plan-k
bounds-plan-k c = omega (arith, inside (goal.at.bounds-plan-k c).In-loop-j)

pub overflow_cast-cost : goal.overflow_cast-cost
overflow_cast-cost c = record { sfits = c.requires.printable.drums _ (omega arith) (omega (arith, c.loop-j-test.true)) }

pub offset_bounds-costs-k : goal.offset_bounds-costs-k
offset_bounds-costs-k c = omega (arith, inside (goal.at.offset_bounds-costs-k c).In-loop-j)

pub bounds-costs-k : goal.bounds-costs-k
bounds-costs-k c = omega (arith, inside (goal.at.bounds-costs-k c).In-loop-j)

pub overflow_mul-cost : goal.overflow_mul-cost
overflow_mul-cost c =
    let k = c.args.start + c.loop-j.j in
    let h = c.loop-j-test.true in
    product_fits (get_or c.args.plan.now k 0) (get_or c.args.costs.now k (pos 0))
    (c.requires.printable.drums k (omega arith) (omega (arith, h))) c.cost-1.given (c.requires.printable.fit k (omega arith) (omega (arith, h)))

pub overflow_add-i : goal.overflow_add-i
overflow_add-i c = omega (arith, c.requires)

pub overflow_add-j : goal.overflow_add-j
overflow_add-j c = omega (arith, c.requires)

pub put_lane-next-requires : goal.put_lane-next-requires
put_lane-next-requires c = omega (arith, c.requires, c.loop-j.invariant)

pub loop-j-preserved : goal.loop-j-preserved
unfolding lane_text
loop-j-preserved c =
    let l = c.loop-j in
    let k = c.args.start + l.j in
    let h = c.loop-j-test.true in
    let w = c.put_lane-next in
    let e =
    product_stored (get_or c.args.plan.now k 0) (get_or c.args.costs.now k (pos 0))
    (c.requires.printable.drums k (omega arith) (omega (arith, h))) c.cost-1.given (c.requires.printable.fit k (omega arith) (omega (arith, h))) in (
      omega (arith, h),
      each_next _ 85 _ l.invariant.1
          (subst (λ (v : ℤ). Written l.out w.new.out l.next w.result (record_text (pos (c.args.i + 1) ∷ pos (l.j + 1) ∷ pos (get_or c.args.plan.now k 0) ∷ v ∷ [])) 85)
          e w.ensures),
    )

pub shape_of-out : goal.shape_of-out
shape_of-out c = written_length c.loop-j.invariant.1

pub returns : goal.returns
unfolding row_text
returns c = each_end _ 85 _ _ c.loop-j.invariant.0 c.loop-j-test.false c.loop-j.invariant.1
