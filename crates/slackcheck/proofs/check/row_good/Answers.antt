-- `slackcheck::check::row_good` meets its contract. Assumes nothing.
use Rattle.std.proofs.Common.{arith}
use Rattle.slackcheck.proofs.Checking.{row_start, row_next, row_end}
use Rattle.slackcheck.proofs.check.row_good.Goals as goal

pub loop-j-init : goal.loop-j-init
loop-j-init c = row_start

pub overflow_add-reach : goal.overflow_add-reach
overflow_add-reach c =
    omega (arith, c.requires.costs c.loop-j.j c.loop-j-test.true, c.requires.high)

pub loop-j-preserved : goal.loop-j-preserved
loop-j-preserved c =
    let s = c.requires in
    let j = c.loop-j.j in
    row_next
    c.where_some-cheap.result
    c.where_some-dear.result
    c.wrapping_sub_u32-room.result
    c.loop-j.invariant
    c.loop-j-test.true
    (s.ends j c.loop-j-test.true)
    (omega (arith, s.costs j c.loop-j-test.true, s.high))
    c.where_some-cheap.ensures
    c.where_some-dear.ensures
    c.wrapping_sub_u32-room.ensures.value

pub returns : goal.returns
returns c = row_end c.loop-j.invariant c.loop-j-test.false
