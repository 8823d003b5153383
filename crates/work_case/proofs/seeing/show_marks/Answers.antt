-- `work_case::seeing::show_marks` meets its contract. Assumes nothing.
use mathlib.Core.Path.{refl}
use native.Mathlib.Omega.{arith}
use Rattle.work_store.proofs.StateAfterWrites.{large}
use Rattle.work_store.proofs.LimitLaws.{short_marks, long_marks, flags_shown}
use Rattle.work_case.proofs.seeing.show_marks.Goals as goal

pub returns-then-marks-lt8 : goal.returns-then-marks-lt8
returns-then-marks-lt8 c = record { told = rw (c.at.ensures.cause, c.at.ensures.place) (short_marks _ c.if-marks-lt8.true); marks = refl }

pub flags-told-requires : goal.flags-told-requires
flags-told-requires c =
    omega (arith, c.requires.room, large c.args.layout.m c.args.layout.n)

pub returns : goal.returns
returns c = record { told = long_marks _ c.if-marks-lt8.false; marks = flags_shown c.args.layout.m c.args.layout.n c.args.store.now _ _ _ (c.flags-told.ensures c.args.layout.m c.args.layout.n) c.put_cells.ensures }
