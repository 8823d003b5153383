-- `csv_case::case::share_sources` meets its contract. Assumes nothing.
use mathlib.Core.Path.{ap, ◌∙◌}
use Prim.Native.Nat.{◌+◌, ◌≤◌}
use native.Mathlib.Omega.{arith}
use lib.IntN.{pos, nat_abs}
use lib.ListN.{length, get_or, take, drop}
use lib.Seq.{sets}
use Rattle.csv_case.proofs.RecordShares.{map_same, sharing_start, source_within, sharing_next, sharing_end}
use Rattle.csv_print.proofs.PrintedSigns.{read_back}
use Rattle.csv_case.proofs.case.share_sources.Goals.{In-loop-i}
use Rattle.csv_case.proofs.case.share_sources.Goals as goal

-- this source's record lies within the cells, and the offset of its costs is not past it
within :
    (c : In-loop-i) →
    (c.loop-i.start + (c.args.n + 1) ≤ length c.args.cells.now) × (c.loop-i.at ≤ c.loop-i.start)
within c = (source_within _ _ _ _ _ _ _ _ _ _ c.requires.n_in_bounds c.loop-i.invariant c.loop-i-test.true, c.loop-i.invariant.behind)

pub loop-i-init : goal.loop-i-init
loop-i-init c = sharing_start _ _ _ _ _

pub copy_fields-requires : goal.copy_fields-requires
copy_fields-requires c = record { count_in_bounds = omega (arith, within (goal.at.copy_fields-requires c).In-loop-i); count_bound = omega (arith, within (goal.at.copy_fields-requires c).In-loop-i) }

pub overflow_add-start : goal.overflow_add-start
overflow_add-start c = omega (arith, within (goal.at.overflow_add-start c).In-loop-i)

pub offset_bounds-cells-start : goal.offset_bounds-cells-start
offset_bounds-cells-start c = omega (arith, within (goal.at.offset_bounds-cells-start c).In-loop-i)

pub bounds-cells-start : goal.bounds-cells-start
bounds-cells-start c = omega (arith, within (goal.at.bounds-cells-start c).In-loop-i)

pub overflow_add-start-in-loop-i : goal.overflow_add-start-in-loop-i
overflow_add-start-in-loop-i c = omega (arith, within (goal.at.overflow_add-start-in-loop-i c).In-loop-i)

pub overflow_add-start-in-loop-i-2 : goal.overflow_add-start-in-loop-i-2
overflow_add-start-in-loop-i-2 c = omega (arith, within (goal.at.overflow_add-start-in-loop-i-2 c).In-loop-i)

pub overflow_add-at : goal.overflow_add-at
overflow_add-at c = omega (arith, within (goal.at.overflow_add-at c).In-loop-i)

pub loop-i-preserved : goal.loop-i-preserved
loop-i-preserved c =
    let a = c.args in
    sharing_next _ _ _ _ _ _ _ _ _ _ c.requires.n_in_bounds c.loop-i.invariant _ _ c.magnitude.result c.loop-i-test.true
    (c.copy_fields.ensures ∙ ap (λ l. sets c.loop-i.costs c.loop-i.at l) (map_same (take a.n (drop c.loop-i.start a.cells.now)))) c.put.ensures
    (c.magnitude.ensures ∙ ap nat_abs (read_back (get_or a.cells.now (c.loop-i.start + a.n) (pos 0)) c.magnitude-arg-1.given))

pub shape_of-costs : goal.shape_of-costs
shape_of-costs c = c.loop-i.invariant.costs_same

pub shape_of-supplies : goal.shape_of-supplies
shape_of-supplies c = c.loop-i.invariant.supplies_same

pub returns : goal.returns
returns c = let the-whole = sharing_end _ _ _ _ _ _ _ _ _ _ c.requires.n_in_bounds c.loop-i.invariant c.loop-i-test.false in record { costs_after = the-whole.0; supplies_after = the-whole.1 }
