-- `sweep::freight::freight_of` meets its contract. Assumes nothing.
use Rattle.std.proofs.Common.{◌≡◌, sym, arith}
use Rattle.transport.proofs.Sums.{sum_zero, sum_more}
use Rattle.sweep.proofs.FreightSum.{ready_fewer, row_most, rows_most, freight_is}
use Rattle.sweep.proofs.freight.freight_of.Goals as goal

pub loop-i-init : goal.loop-i-init
loop-i-init c = (omega arith, sym (sum_zero _))

pub row_freight-total-requires : goal.row_freight-total-requires
row_freight-total-requires c = ready_fewer c.requires (omega arith)

pub overflow_add-total : goal.overflow_add-total
overflow_add-total c =
    let p = c.requires in
    let i = c.loop-i.i in
    omega (arith, row_most p i c.args.lanes.now.n (omega arith) (omega arith), rows_most p i (omega arith), p.sources, p.terminals)

pub loop-i-preserved : goal.loop-i-preserved
loop-i-preserved c = (omega arith, rw c.row_freight-total.ensures (sum_more _ _ _ c.loop-i.invariant.1))

pub returns : goal.returns
returns c =
    let e : c.loop-i.i ≡ c.args.lanes.now.m = omega (arith, c.loop-i-test.false) in
    rw (freight_is, ← e) c.loop-i.invariant.1
