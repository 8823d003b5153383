-- The record's end is found at a byte, is looked for after it, or is the end of the bytes.
use Rattle.std.proofs.Common.{◌≡◌, length, arith, refl, sym, ◌∙◌}
use Rattle.file_io.proofs.PlaceRuns.{end_here, end_on, end_done}
use Rattle.file_io.proofs.place.record_end.Goals as goal
use Rattle.file_io.proofs.place.record_end.Goals.{then-here-record+else-byte-eq13, else-here-record}

pub returns-then-byte-eq13 : goal.returns-then-byte-eq13
returns-then-byte-eq13 c =
    sym (c.loop-i.invariant ∙ end_here _ _ _ _ c.loop-i-test.true c.if-here-record.true c.if-byte-eq13.true)

pub loop-i-preserved : goal.loop-i-preserved
loop-i-preserved c =
    c.loop-i.invariant
    ∙ end_on _ _ _ _ _ c.loop-i-test.true
    (λ e b. elim c.if-here-record.branch [ then-here-record+else-byte-eq13 w ↦ w.if-byte-eq13.false b | else-here-record w ↦ w.if-here-record.false e ])
    c.after-here.ensures.«record»

pub returns : goal.returns
returns c =
    let e : c.loop-i.i ≡ length c.args.bytes.now = omega arith in
    sym (c.loop-i.invariant ∙ end_done _ _ _ _ c.loop-i-test.false ∙ e)

pub loop-i-init : goal.loop-i-init
loop-i-init c = rw (c.first-here.ensures.«record») refl
