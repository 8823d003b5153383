-- A call leaves the store as long as it was, and so does entering. Assumes nothing.
use mathlib.Core.Path.{◌≡◌, refl, sym, ap, ◌∙◌}
use mathlib.Core.Bool.{Bool, true, false, cond}
use mathlib.Core.Option.{Option, none, some}
use mathlib.Core.List.{List}
use Prim.Native.Nat.{ℕ, ◌+◌, ◌-◌, ◌≤◌}
use native.Mathlib.Omega.{arith}
use lib.Dec.{eqb, ltb}
use lib.ListN.{length, length-set}
use borrow.Author.Tests.{ltb-false}
use Rattle.problem.specs.Range.{raised_of}
use Rattle.problem.specs.Outcome.{Outcome, refused, refuse_if, ◌or_else◌, form_refusal}
use Rattle.problem.proofs.TestsPassed.{first_passes, second_passes, refuse_if_none}
use Rattle.work_store.specs.Calls.{Call, edit_demand, edit_supply, edit_cost, edit_entry, set_mark, go_back, refuse_when, absent, least_run, refusal_in, unset}
use Rattle.work_store.specs.Store.{cells_for, supplies_at, in_case, state_at, mark_in, sources, terminals, opens, held_in, extended, writes, cells_of}
use Rattle.work_store.specs.State.{Draft, lent_with}
use Rattle.work_store.specs.Promise.{answer_to, cells_unless, entry_refusal, Entered}
use Rattle.work_store.proofs.Slots.{copied_length}
use Rattle.work_store.proofs.StateAfterWrites.{inside, is_open, mark_length}
use Rattle.work_store.proofs.CallPromise.{when_none, held_none, held_some}
use Rattle.work_store.proofs.ZerosPastTable.{ext_length}
use Rattle.work_store.proofs.Entering.{written_length, entry_fits, entry_sized}

after_call : (call : Call) (cells : List ℕ) → opens cells ≡ true → refusal_in call (state_at (sources cells) (terminals cells) cells) ≡ none
    → length (writes (sources cells) (terminals cells) call cells) ≡ length cells
unfolding writes refusal_in state_at
after_call (edit_demand j v) cells o e = length-set cells _ v
after_call (edit_supply i v) cells o e =
    let m = sources cells in
    let n = terminals cells in
    let s = state_at m n cells in
    let rest = refuse_when 4 i (ltb 4000 v) or_else refuse_when 23 i (ltb v (least_run s.case i)) in
    let small = ltb-false 4000 v (when_none 4 i (ltb 4000 v) (first_passes (refuse_when 4 i (ltb 4000 v)) _ (second_passes (refuse_if 24 (absent i s.case.m)) rest e))) in
    length-set (cond (eqb i 1) (extended m n (v + 1) cells) cells) (in_case (supplies_at + (i - 1))) v ∙ go (eqb i 1) small
  where
    go : (t : Bool) → v ≤ 4000 → length (cond t (extended (sources cells) (terminals cells) (v + 1) cells) cells) ≡ length cells
    go true small = ext_length (sources cells) (terminals cells) cells (is_open cells o) (v + 1) (omega arith)
    go false small = refl
after_call (edit_cost i j v) cells o e = length-set cells _ (raised_of v)
after_call (edit_entry y v) cells o e = length-set cells _ v
after_call (set_mark k) cells o e =
    let i = inside k 8 (refuse_if_none 24 (absent k 8) e) in
    mark_length (sources cells) (terminals cells) cells (is_open cells o) k i.0 i.1
after_call (go_back k) cells o e =
    let m = sources cells in
    let n = terminals cells in
    let i = inside k 8 (refuse_if_none 24 (absent k 8) (first_passes (refuse_if 24 (absent k 8)) (refuse_when 25 k (unset (mark_in m n cells k))) e)) in
    copied_length m n cells (is_open cells o).room k 0 i.1 (omega arith)

-- by the answer
pub kept_length : (call : Call) (before after : List ℕ) (r : Option Outcome) → (r ≡ none → answer_to call (held_in before) ≡ none)
    → after ≡ cells_unless r (writes (sources before) (terminals before) call before) before → length after ≡ length before
kept_length call before after (some x) e c = ap length c
kept_length call before after none e c = ap length c ∙ go (opens before) refl
  where
    go : (t : Bool) → opens before ≡ t → length (writes (sources before) (terminals before) call before) ≡ length before
    go true o = after_call call before o (sym (ap (answer_to call) (held_some before o)) ∙ e refl)
    go false o =
        let z : some (refused 11 0) ≡ none = sym (ap (answer_to call) (held_none before o)) ∙ e refl in
        let y : ◌≡◌ {A = ℕ} 0 1 = cc in absurd (omega arith)

pub entered_length : (d : Draft) (before after : List ℕ) (r : Option Outcome) → Entered d before after r → length after ≡ length before
unfolding entry_refusal
entered_length d before after (some x) e = ap length e.cells
entered_length d before after none e =
    let short = ltb (length before) (cells_for d.m d.n) in
    let form = form_refusal (lent_with d 0 0 0) in
    let p = first_passes form (refuse_if 11 short) (sym e.answer) in
    let q = ltb-false (length before) (cells_for d.m d.n) (refuse_if_none 11 short (second_passes form (refuse_if 11 short) (sym e.answer))) in
    ap length e.cells ∙ written_length (cells_of d) before (entry_fits d before (entry_sized d before p q))
