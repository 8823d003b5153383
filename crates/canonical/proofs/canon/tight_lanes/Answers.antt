-- `canonical::canon::tight_lanes` meets its contract. Assumes nothing.
use mathlib.Core.Path.{◌≡◌}
use Prim.Native.Nat.{◌-◌, ◌<◌}
use native.Mathlib.Omega.{arith}
use Rattle.reachability.proofs.MaskBits.{power_fits_long}
use Rattle.canonical.proofs.LaneStores.{tights_none, tights_more, tights_same}
use Rattle.canonical.proofs.canon.tight_lanes.Goals.{then-cost-i, else-cost-i}
use Rattle.canonical.proofs.canon.tight_lanes.Goals as goal

pub loop-j-init : goal.loop-j-init
loop-j-init c = (omega arith, tights_none)

pub overflow_add-cost : goal.overflow_add-cost
overflow_add-cost c =
    let j = c.loop-j.j in
    omega (arith, c.requires.part_ready.costs c.args.i j c.requires.i_lt_m c.loop-j-test.true, c.requires.part_ready.high c.args.i (omega (arith, c.requires.i_lt_m, c.requires.part_ready.sources)))

pub loop-j-preserved : goal.loop-j-preserved
loop-j-preserved c =
    let q = c.loop-j.invariant in
    let short : c.loop-j.j < 64 = omega (arith, c.loop-j-test.true, c.requires.part_ready.terminals) in (
      omega (arith, c.loop-j-test.true),
      elim c.if-cost-i.branch [
        | then-cost-i w ↦ rw w.all-is (rw (power_fits_long c.loop-j.j short) (tights_more q.1 w.if-cost-i.true))
        | else-cost-i w ↦ rw w.all-is (tights_same q.1 w.if-cost-i.false)
      ],
    )

pub returns : goal.returns
returns c =
    let q = c.loop-j.invariant in
    let e : c.args.lanes.now.n ≡ c.loop-j.j = omega (arith, q.0, c.loop-j-test.false) in
    rw e q.1
