-- `csv_table::table::scan` meets its contract. Assumes nothing.
use mathlib.Core.Path.{sym, ap, ◌∙◌, subst}
use Prim.Native.Nat.{◌≤◌, ◌<◌}
use native.Mathlib.Omega.{arith}
use lib.ListN.{length}
use mir.Syntax.{w64}
use mir.Val.{to_z, of_z}
use Rattle.std.proofs.Common.{Ok}
use Rattle.std.proofs.lemmas.Result.{err_from_is_err_and}
use Rattle.csv_table.specs.declared.table.Tally.{Tally}
use Rattle.csv_table.specs.inner.Tallies.{record_tally}
use Rattle.csv_table.proofs.FieldLoop.{field_ahead, field_small, field_next, record-next, Along, Valued}
use Rattle.csv_table.proofs.FieldLoop.{along_start, long_table, field_refused, field_valued, on_field_lem, on_record, on_end, on_empty}
use Rattle.csv_table.proofs.FieldLoop.{on_refused}
use Rattle.csv_print.proofs.PrintedSigns.{read_back}
use Rattle.csv_table.proofs.table.scan.Goals.{After-source-source, At-loop-f}
use Rattle.csv_table.proofs.table.scan.Goals as goal

-- the file is short enough
short : (c : At-loop-f) → length c.args.s.now ≤ 65536
short c = c.if-s-gt65536.false

-- a field is read, stored and counted
valued :
    (c : After-source-source) →
    Valued c.args.kind c.args.s.now c.args.cells.now c.put.new.cells c.with_field-t.result c.in-Ok.f.minus c.in-Ok.f.value c.in-Ok.f.next
valued c =
    field_valued _ _ _ _ _ _ c.loop-f.invariant _ c.read_field-read.ensures _ _ _ _ _
    (to_z w64 (of_z w64 c.with_sign.result)) c.in-Ok.is c.with_field-t.ensures
    c.put.ensures (read_back c.with_sign.result c.with_sign.type_inv ∙ c.with_sign.ensures)

-- each field takes the offset on
ahead : (c : After-source-source) → c.loop-f.at < c.in-Ok.f.next
ahead c = field_ahead _ _ _ _ _ _ c.loop-f.invariant _ c.read_field-read.ensures _ _ _ c.in-Ok.is

pub returns-then-s-gt65536 : goal.returns-then-s-gt65536
returns-then-s-gt65536 c = let a = c.args in rw (c.at.ensures.cause, c.at.ensures.place) (long_table a.kind a.s.now a.cells.now c.if-s-gt65536.true)

pub loop-f-init : goal.loop-f-init
loop-f-init c =
    let a = c.args in
    subst (λ (t : Tally). Along a.kind a.s.now a.cells.now a.cells.now t 0) (sym c.start-t.ensures) (along_start a.kind a.s.now a.cells.now)

pub returns-in_default : goal.returns-in_default
returns-in_default c =
    rw (c.handed_on.ensures, c.in_default.is)
    (field_refused _ _ _ _ _ _ c.loop-f.invariant _ c.read_field-read.ensures _ _ (short (goal.at.returns-in_default c).At-loop-f) c.in_default.is)

pub with_sign-requires : goal.with_sign-requires
with_sign-requires c = field_small _ _ _ _ _ _ c.loop-f.invariant _ c.read_field-read.ensures _ _ _ c.in-Ok.is

pub read_after-requires : goal.read_after-requires
read_after-requires c = (valued (goal.at.read_after-requires c).After-source-source).upto

pub returns-in_err-a : goal.returns-in_err-a
returns-in_err-a c =
    let p = err_from_is_err_and c.from_residual.result c.from_residual.ensures.1 in
    rw (p.1, p.2)
    (on_refused _ _ _ _ _ _ _ _ (valued (goal.at.returns-in_err-a c).After-source-source) _ c.source-source.ensures _ c.read_after.ensures _
    (short (goal.at.returns-in_err-a c).At-loop-f) c.in_err-a.was)

pub loop-f-smaller-in-Field : goal.loop-f-smaller-in-Field
loop-f-smaller-in-Field c =
    omega (
      arith,
      ahead (goal.at.loop-f-smaller-in-Field c).After-source-source,
      field_next _ _ _ _ _ _ _ _ (valued (goal.at.loop-f-smaller-in-Field c).After-source-source) _ c.source-source.ensures _ c.read_after.ensures _
          (c.in_ok-a.was ∙ ap Ok c.in-Field.is),
    )

pub loop-f-preserved-in-Field : goal.loop-f-preserved-in-Field
loop-f-preserved-in-Field c =
    on_field_lem _ _ _ _ _ _ _ _ (valued (goal.at.loop-f-preserved-in-Field c).After-source-source) _ c.source-source.ensures _ c.read_after.ensures _
    (c.in_ok-a.was ∙ ap Ok c.in-Field.is)

pub loop-f-smaller : goal.loop-f-smaller
loop-f-smaller c =
    omega (
      arith,
      ahead (goal.at.loop-f-smaller c).After-source-source,
      record-next _ _ _ _ _ _ _ _ (valued (goal.at.loop-f-smaller c).After-source-source) _ c.source-source.ensures _ c.read_after.ensures _
          (c.in_ok-a.was ∙ ap Ok c.in-Record.is),
    )

pub loop-f-preserved : goal.loop-f-preserved
loop-f-preserved c =
    on_record _ _ _ _ _ _ _ _ (valued (goal.at.loop-f-preserved c).After-source-source) _ c.source-source.ensures _ c.read_after.ensures _ _
    (c.in_ok-a.was ∙ ap Ok c.in-Record.is) c.with_record-t.ensures

pub returns-in-End : goal.returns-in-End
returns-in-End c =
    rw c.table.ensures
    (on_end _ _ _ _ _ _ _ _ (valued (goal.at.returns-in-End c).After-source-source) _ c.source-source.ensures _ c.read_after.ensures _
    (short (goal.at.returns-in-End c).At-loop-f) (c.in_ok-a.was ∙ ap Ok c.in-End.is) c.with_record.ensures)

pub returns-in-Empty : goal.returns-in-Empty
returns-in-Empty c =
    rw c.table-in-Empty.ensures
    (on_empty _ _ _ _ _ _ _ _ (valued (goal.at.returns-in-Empty c).After-source-source) _ c.source-source.ensures _ c.read_after.ensures _ _
    (short (goal.at.returns-in-Empty c).At-loop-f) (c.in_ok-a.was ∙ ap Ok c.in-Empty.is)
    (c.with_record-in-Empty.ensures ∙ ap record_tally c.with_field.ensures) (rw c.with_field-t.ensures c.put-in-Empty.ensures))
