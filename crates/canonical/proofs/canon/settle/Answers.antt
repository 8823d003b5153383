-- `canonical::canon::settle` meets its contract. Assumes nothing.
use Prim.Native.Nat.{◌-◌}
use native.Mathlib.Omega.{arith}
use Rattle.canonical.proofs.FreeLanes.{supplied_all}
use Rattle.canonical.proofs.LaneStores.{onward_none, onward_skip, onward_both}
use Rattle.canonical.proofs.canon.settle.Goals as goal

pub loop-i-init : goal.loop-i-init
loop-i-init c = (omega arith, onward_skip (λ a b ha hb l. omega arith) (omega arith) onward_none, c.requires, supplied_all c.requires.terminals)

pub settle_row-requires : goal.settle_row-requires
settle_row-requires c =
    let q = c.loop-i.invariant in record { i_lt_m = c.loop-i-test.true; supplied = q.3; fact = q.2 }

pub loop-i-preserved : goal.loop-i-preserved
loop-i-preserved c =
    let q = c.loop-i.invariant in let d = c.settle_row.ensures in
    (omega arith, onward_skip (λ a b ha hb l. omega arith) (omega arith) (onward_both q.1 d.onward), d.fact_2, d.supplied_2)

pub returns : goal.returns
returns c =
    let q = c.loop-i.invariant in record { onward = onward_skip (λ a b ha hb l. omega (arith, c.loop-i-test.false)) (omega arith) q.1; fact = q.2 }
