-- From what an inner function does in an open store to what is promised of a call. Assumes nothing.
use mathlib.Core.Path.{◌≡◌, refl, sym, ap, ◌∙◌, subst}
use mathlib.Core.Bool.{Bool, true, false}
use mathlib.Core.Option.{Option, none, some}
use mathlib.Core.List.{List}
use Prim.Native.Nat.{ℕ, ◌+◌}
use native.Mathlib.Omega.{arith}
use lib.IntN.{ℤ}
use lib.ListN.{set}
use Rattle.problem.specs.Outcome.{Outcome, refused, refuse_if}
use Rattle.problem.proofs.TestsPassed.{first_passes, second_passes, refuse_if_none}
use Rattle.std.specs.Prelude.{Ok, Err}
use Rattle.refusal.specs.declared.Cause.TheVariants.{Room}
use Rattle.work_store.specs.State.{State}
use Rattle.work_store.specs.Calls.{Call, edit_cost, set_mark, go_back, refuse_when, absent, unset, refusal_in, acted, unless, step}
use Rattle.work_store.specs.Store.{state_at, mark_in, sources, terminals, signed_at, opens, held_in, copied, writes}
use Rattle.work_store.specs.Promise.{answer_to, steps, cells_unless, Performed}
use Rattle.work_store.specs.inner.OpenStore.{laid, opened_of, Acted}
use Rattle.work_store.proofs.StateAfterWrites.{inside, is_open, held_eq, mark_state, mark_head, mark_length, back_state}
use Rattle.work_store.proofs.Slots.{copied_length, copied_head}
use Rattle.work_store.proofs.OpenStore.{is_shut, is_found, found_size}

-- a call does to the cells what it does to the state
abbrev pub Faithful : Call → Type 0
Faithful call =
    (cells : List ℕ) → opens cells ≡ true → refusal_in call (state_at (sources cells) (terminals cells) cells) ≡ none
    → held_in (writes (sources cells) (terminals cells) call cells) ≡ some (acted call (state_at (sources cells) (terminals cells) cells))

-- a refusal with a place that does not refuse
pub when_none : (k p : ℕ) (t : Bool) → refuse_when k p t ≡ none → t ≡ false
unfolding refuse_when
when_none k p true e = let z : ◌≡◌ {A = ℕ} 0 1 = cc in absurd (omega arith)
when_none k p false e = refl

pub mark_faithful : (k : ℕ) → Faithful (set_mark k)
unfolding refusal_in writes
mark_faithful k cells o e =
    let m = sources cells in
    let n = terminals cells in
    let i = inside k 8 (refuse_if_none 24 (absent k 8) e) in
    let p = is_open cells o in
    held_eq cells (set (copied m n 0 k cells) (1 + k) 1) _ o (mark_length m n cells p k i.0 i.1)
    (mark_head m n cells p k i.0 i.1 0 (omega arith) (λ z. omega arith)) (mark_head m n cells p k i.0 i.1 1 (omega arith) (λ z. omega (arith, i.0)))
    (mark_head m n cells p k i.0 i.1 signed_at (omega arith) (λ z. omega (arith, i.1)))
    (mark_state m n cells p k i.0 i.1)

pub back_faithful : (k : ℕ) → Faithful (go_back k)
unfolding refusal_in writes state_at
back_faithful k cells o e =
    let m = sources cells in
    let n = terminals cells in
    let i = inside k 8 (refuse_if_none 24 (absent k 8) (first_passes (refuse_if 24 (absent k 8)) (refuse_when 25 k (unset (mark_in m n cells k))) e)) in
    let u = when_none 25 k (unset (mark_in m n cells k)) (second_passes (refuse_if 24 (absent k 8)) (refuse_when 25 k (unset (mark_in m n cells k))) e) in
    let p = is_open cells o in
    held_eq cells (copied m n k 0 cells) _ o (copied_length m n cells p.room k 0 i.1 (omega arith))
    (copied_head m n cells p.room k 0 i.1 (omega arith) 0 (omega arith)) (copied_head m n cells p.room k 0 i.1 (omega arith) 1 (omega arith))
    (copied_head m n cells p.room k 0 i.1 (omega arith) signed_at (omega arith))
    (back_state m n cells p k i.0 i.1 u)

-- ---- what the store holds

pub held_none : (cells : List ℕ) → opens cells ≡ false → held_in cells ≡ none
unfolding held_in
held_none cells e = rw (e, held_in) refl

pub held_some : (cells : List ℕ) → opens cells ≡ true → held_in cells ≡ some (state_at (sources cells) (terminals cells) cells)
unfolding held_in
held_some cells e = rw (e, held_in) refl

module _ (call : Call) where
  pub by_closed : (before : List ℕ) → opened_of before ≡ Err Room → Performed call before before (some (refused 11 0))
  by_closed before c =
      let h = held_none before (is_shut before c) in
      record { answer = sym (ap (answer_to call) h); cells = refl; state = h ∙ sym (ap (steps call) h) }

  -- the state after the work, by the refusal
  left : Faithful call → (before after : List ℕ) (r : Option Outcome) → opens before ≡ true
      → r ≡ refusal_in call (state_at (sources before) (terminals before) before) → after ≡ cells_unless r (writes (sources before) (terminals before) call before) before
      → held_in after ≡ some (unless r (acted call (state_at (sources before) (terminals before) before)) (state_at (sources before) (terminals before) before))
  left f before after none o e c = ap held_in c ∙ f before o (sym e)
  left f before after (some r) o e c = ap held_in c ∙ held_some before o

  stepped : (s : State) (r : Option Outcome) → r ≡ refusal_in call s → step call s ≡ unless r (acted call s) s
  unfolding step
  stepped s r q = ap (λ (t : Option Outcome). unless t (acted call s) s) (sym q)

  pub by_work : Faithful call → (before after : List ℕ) (m n : ℕ) (r : Option Outcome) → opened_of before ≡ Ok (laid m n)
      → Acted m n call before after r → Performed call before after r
  by_work f before after m n r c a =
      let s = found_size before m n c in
      let w : Acted (sources before) (terminals before) call before after r = rw (s.0, s.1) a in
      let o = is_found before m n c in
      let h = held_some before o in
      record {
        answer = w.refusal ∙ sym (ap (answer_to call) h);
        cells = w.cells;
        state =
            left f before after r o w.refusal w.cells
            ∙ sym (ap (steps call) h ∙ ap some (stepped (state_at (sources before) (terminals before) before) r w.refusal));
      }

-- a signed unit cost, as it is handed on
pub same_cost : (i j : ℕ) (v w : ℤ) (before after : List ℕ) (r : Option Outcome) → v ≡ w → Performed (edit_cost i j v) before after r
    → Performed (edit_cost i j w) before after r
same_cost i j v w before after r e p = subst (λ (z : ℤ). Performed (edit_cost i j z) before after r) e p
