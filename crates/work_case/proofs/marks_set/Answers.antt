-- `work_case::marks_set` meets its contract. Assumes nothing.
use mathlib.Core.Path.{sym}
use Rattle.work_store.proofs.OpenStore.{opened}
use Rattle.work_store.proofs.LimitLaws.{marks_closed, marks_work}
use Rattle.std.proofs.lemmas.Result.{err_from_is_err_and}
use Rattle.work_store.proofs.OpenStore.{only_room}
use Rattle.work_case.proofs.marks_set.Goals as goal

pub show_marks-requires : goal.show_marks-requires
show_marks-requires c = opened _ _ _ (sym c.in_ok-layout.ensures)

pub returns-in_err-layout : goal.returns-in_err-layout
returns-in_err-layout c =
    let r = err_from_is_err_and c.from_residual.result c.from_residual.ensures.1 in
    let e = only_room c.args.store.now _ (sym c.in_err-layout.ensures) in
    rw (r.1, r.2, e.0) (marks_closed _ _ e.1)

pub returns : goal.returns
returns c =
    let s = c.show_marks.ensures in marks_work _ _ _ (sym c.in_ok-layout.ensures) _ _ _ s.told s.marks
