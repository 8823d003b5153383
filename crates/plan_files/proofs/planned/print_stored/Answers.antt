-- `plan_files::planned::print_stored` meets its contract. Assumes nothing.
use mathlib.Core.Path.{◌≡◌, sym, ap₂}
use Prim.Native.Nat.{ℕ, min, ◌*◌}
use native.Mathlib.Omega.{arith}
use lib.Seq.{length-take-le}
use Rattle.plan_files.proofs.StoredCase.{few_lanes, ceilings_long, cut_printed}
use Rattle.plan_files.proofs.planned.print_stored.Goals.{After-min-e}
use Rattle.plan_files.proofs.planned.print_stored.Goals as goal

-- the lanes that are kept
product : (c : After-min-e) →
    c.min-a.result * c.min-b.result ≡ min c.args.m 32 * min c.args.n 64
product c = ap₂ (λ (x y : ℕ). x * y) c.min-a.ensures c.min-b.ensures

pub overflow_mul-lanes : goal.overflow_mul-lanes
overflow_mul-lanes c = let a = c.args in record { fits = omega (arith, few_lanes a.m a.n, product (goal.at.overflow_mul-lanes c).After-min-e) }

pub slice_bounds-print_case-end : goal.slice_bounds-print_case-end
slice_bounds-print_case-end c =
    sym (length-take-le _ _ (omega (arith, few_lanes c.args.m c.args.n, product (goal.at.slice_bounds-print_case-end c).After-min-e, c.requires.lanes)))

pub slice_bounds-print_case-end-2 : goal.slice_bounds-print_case-end-2
slice_bounds-print_case-end-2 c =
    sym (length-take-le _ _ (omega (arith, c.min-a.ensures, c.requires.sources)))

pub slice_bounds-print_case-end-3 : goal.slice_bounds-print_case-end-3
slice_bounds-print_case-end-3 c =
    sym (length-take-le _ _ (omega (arith, c.min-b.ensures, c.requires.terminals)))

pub slice_bounds-ceilings-end : goal.slice_bounds-ceilings-end
slice_bounds-ceilings-end c =
    omega (arith, few_lanes c.args.m c.args.n, product (goal.at.slice_bounds-ceilings-end c).After-min-e)

pub slice_bounds-print_case-end-4 : goal.slice_bounds-print_case-end-4
slice_bounds-print_case-end-4 c =
    sym (length-take-le _ _ (omega (arith, few_lanes c.args.m c.args.n, product (goal.at.slice_bounds-print_case-end-4 c).After-min-e, ceilings_long _ c.lane_ceilings-ceilings.ensures)))

pub slice_bounds-print_case-end-5 : goal.slice_bounds-print_case-end-5
slice_bounds-print_case-end-5 c =
    sym (length-take-le _ _ (omega (arith, c.min-e.ensures, c.requires.entries)))

pub returns : goal.returns
returns c =
    cut_printed _ _ _ _ _ _ _ _ _ _ _ _ _ _ c.min-a.ensures c.min-b.ensures c.min-e.ensures
    c.lane_ceilings-ceilings.ensures c.print_case.ensures
