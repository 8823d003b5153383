-- `write_case::rewrite::write_stored` meets its contract. Assumes nothing.
use mathlib.Core.Path.{◌≡◌, sym, ap₂}
use Prim.Native.Nat.{ℕ, min, ◌*◌}
use native.Mathlib.Omega.{arith}
use lib.Seq.{length-take-le}
use Rattle.plan_files.proofs.StoredCase.{few_lanes}
use Rattle.write_case.proofs.Rewrites.{cut_written}
use Rattle.write_case.proofs.rewrite.write_stored.Goals.{After-min-e}
use Rattle.write_case.proofs.rewrite.write_stored.Goals as goal

-- the lanes that are kept
product : (c : After-min-e) →
    c.min-a.result * c.min-b.result ≡ min c.args.m 32 * min c.args.n 64
product c = ap₂ (λ (x y : ℕ). x * y) c.min-a.ensures c.min-b.ensures

pub overflow_mul-lanes : goal.overflow_mul-lanes
overflow_mul-lanes c = let a = c.args in record { fits = omega (arith, few_lanes a.m a.n, product (goal.at.overflow_mul-lanes c).After-min-e) }

pub slice_bounds-write_case-end : goal.slice_bounds-write_case-end
slice_bounds-write_case-end c =
    sym (length-take-le _ _ (omega (arith, few_lanes c.args.m c.args.n, product (goal.at.slice_bounds-write_case-end c).After-min-e, c.requires.lanes)))

pub slice_bounds-write_case-end-2 : goal.slice_bounds-write_case-end-2
slice_bounds-write_case-end-2 c =
    sym (length-take-le _ _ (omega (arith, c.min-a.ensures, c.requires.sources)))

pub slice_bounds-write_case-end-3 : goal.slice_bounds-write_case-end-3
slice_bounds-write_case-end-3 c =
    sym (length-take-le _ _ (omega (arith, c.min-b.ensures, c.requires.terminals)))

pub slice_bounds-write_case-end-4 : goal.slice_bounds-write_case-end-4
slice_bounds-write_case-end-4 c =
    sym (length-take-le _ _ (omega (arith, c.min-e.ensures, c.requires.entries)))

pub returns : goal.returns
returns c =
    cut_written _ _ _ _ _ _ _ _ _ _ c.min-a.ensures c.min-b.ensures c.min-e.ensures (c.write_case.ensures 2048 4001 4001)
