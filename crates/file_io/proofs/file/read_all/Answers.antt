-- A read that is not the last brings a byte and leaves room.
use Rattle.std.proofs.Common.{arith, rules}
use Rattle.file_io.proofs.ReadOn.{told_on}
use Rattle.file_io.proofs.file.read_all.Goals as goal

pub loop-at-smaller : goal.loop-at-smaller
loop-at-smaller g c =
    let on = told_on c.after_read-taken.ensures c.if-taken.false in
    omega (arith, on.0, on.1)

pub loop-at-preserved : goal.loop-at-preserved
loop-at-preserved g c =
    let on = told_on c.after_read-taken.ensures c.if-taken.false in
    (search rules, (search rules, omega (arith, on.1)))
