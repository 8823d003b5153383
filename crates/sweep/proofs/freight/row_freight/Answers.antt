-- `sweep::freight::row_freight` meets its contract. Assumes nothing.
use Rattle.std.proofs.Common.{◌≡◌, sym, arith}
use Rattle.transport.proofs.Sums.{sum_zero, sum_more}
use Rattle.sweep.proofs.FreightSum.{lane_most, row_most}
use Rattle.sweep.proofs.freight.row_freight.Goals as goal

pub loop-j-init : goal.loop-j-init
loop-j-init c = (omega arith, sym (sum_zero _))

pub overflow_cast-total : goal.overflow_cast-total
overflow_cast-total c =
    omega (arith, c.requires.costs c.args.i c.loop-j.j (omega arith) (omega arith))

pub overflow_cast-total-in-loop-j : goal.overflow_cast-total-in-loop-j
overflow_cast-total-in-loop-j c =
    omega (arith, c.requires.amounts c.args.i c.loop-j.j (omega arith) (omega arith))

pub overflow_mul-total : goal.overflow_mul-total
overflow_mul-total c =
    let a = c.args in
    omega (arith, lane_most c.requires a.i c.loop-j.j (omega arith) (omega arith))

pub overflow_add-total : goal.overflow_add-total
overflow_add-total c =
    let p = c.requires in
    let i = c.args.i in
    let j = c.loop-j.j in
    omega (arith, lane_most p i j (omega arith) (omega arith), row_most p i j (omega arith) (omega arith), p.terminals)

pub loop-j-preserved : goal.loop-j-preserved
loop-j-preserved c = (omega arith, sum_more _ _ _ c.loop-j.invariant.1)

pub returns : goal.returns
returns c =
    let e : c.loop-j.j ≡ c.args.n = omega (arith, c.loop-j-test.false) in
    rw (← e) c.loop-j.invariant.1
