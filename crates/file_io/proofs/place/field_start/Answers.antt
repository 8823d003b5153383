-- The field begins at a byte, is looked for after it, or begins at the end of the bytes.
use Rattle.std.proofs.Common.{◌≡◌, length, arith, refl, sym, ◌∙◌}
use Rattle.file_io.proofs.PlaceRuns.{start_here, start_on, start_done}
use Rattle.file_io.proofs.place.field_start.Goals as goal
use Rattle.file_io.proofs.place.field_start.Goals.{then-here-record+else-here-field, else-here-record}

pub returns-then-here-field : goal.returns-then-here-field
returns-then-here-field c =
    sym (c.loop-i.invariant ∙ start_here _ _ _ _ _ _ c.loop-i-test.true c.if-here-record.true c.if-here-field.true)

pub loop-i-preserved : goal.loop-i-preserved
loop-i-preserved c =
    c.loop-i.invariant
    ∙ start_on _ _ _ _ _ _ _ _ c.loop-i-test.true
    (λ e b. elim c.if-here-record.branch [ then-here-record+else-here-field w ↦ w.if-here-field.false b | else-here-record w ↦ w.if-here-record.false e ])
    c.after-here.ensures.«record»
    c.after-here.ensures.field

pub returns : goal.returns
returns c =
    let e : c.loop-i.i ≡ length c.args.bytes.now = omega arith in
    sym (c.loop-i.invariant ∙ start_done _ _ _ _ _ _ c.loop-i-test.false ∙ e)

pub loop-i-init : goal.loop-i-init
loop-i-init c = rw (c.first-here.ensures.«record», c.first-here.ensures.field) refl
