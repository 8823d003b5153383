-- `work_case::enter` meets its contract. Assumes nothing.
use mathlib.Core.Path.{sym}
use native.Mathlib.Omega.{arith}
use Rattle.std.proofs.lemmas.Result.{err_from_is_err_and}
use Rattle.work_store.specs.State.{Draft, draft_of}
use Rattle.work_store.proofs.Entering.{entry_form, entry_size, entry_short, entry_sized, entry_done}
use Rattle.work_case.proofs.enter.Goals.{Start}
use Rattle.work_case.proofs.enter.Goals as goal

-- the case that is lent
abbrev given : Start → Draft
given s = draft_of s.args.case.now

pub returns-in_err-form_test : goal.returns-in_err-form_test
returns-in_err-form_test c =
    let r = err_from_is_err_and c.from_residual.result c.from_residual.ensures.1 in
    rw (r.1, r.2) (entry_form (given (goal.at.returns-in_err-form_test c).Start) _ _ (sym (c.in_err-form_test.ensures 0 0 0)))

pub cells_for-requires : goal.cells_for-requires
cells_for-requires c =
    let s = entry_size (given (goal.at.cells_for-requires c).Start) c.args.store.now (sym (c.in_ok-form_test.ensures 0 0 0)) in
    record { few = s.0; many = s.1 }

pub returns-then-store-cells_for : goal.returns-then-store-cells_for
returns-then-store-cells_for c =
    rw (c.at.ensures.cause, c.at.ensures.place)
    (entry_short (given (goal.at.returns-then-store-cells_for c).Start) _ (sym (c.in_ok-form_test.ensures 0 0 0)) (omega (arith, c.if-store-cells_for.true, c.cells_for.ensures)))

pub put_case-requires : goal.put_case-requires
put_case-requires c =
    entry_sized (given (goal.at.put_case-requires c).Start) _ (sym (c.in_ok-form_test.ensures 0 0 0)) (omega (arith, c.if-store-cells_for.false, c.cells_for.ensures))

pub returns : goal.returns
returns c =
    let d = given (goal.at.returns c).Start in
    let formed = sym (c.in_ok-form_test.ensures 0 0 0) in
    entry_done d _ formed _ (entry_sized d _ formed (omega (arith, c.if-store-cells_for.false, c.cells_for.ensures))) c.put_case.ensures
