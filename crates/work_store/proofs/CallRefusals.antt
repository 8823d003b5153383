-- The refusals of a call in an open store, as the inner functions come to them. Assumes nothing.
use mathlib.Core.Path.{◌≡◌, refl, sym, ◌∙◌}
use mathlib.Core.Bool.{Bool, true, false, ◌||◌}
use mathlib.Core.Option.{Option, none, some}
use mathlib.Core.List.{List}
use Prim.Native.Nat.{ℕ, ◌+◌, ◌<◌}
use lib.ListN.{get_or}
use borrow.Author.Tests.{lt-ltb, eq-eqb, ne_eqb}
use Rattle.problem.specs.Outcome.{Outcome, refused, refuse_if, ◌or_else◌}
use Rattle.work_store.specs.State.{State}
use Rattle.work_store.specs.Calls.{Call, set_mark, go_back, refuse_when, absent, unset, refusal_in}
use Rattle.work_store.specs.Store.{state_at, mark_in, writes}
use Rattle.work_store.specs.inner.OpenStore.{Acted}

pub or_true : (a : Bool) → (a || true) ≡ true
or_true true = refl
or_true false = refl

pub out_low : (k n : ℕ) → k < 1 → absent k n ≡ true
unfolding absent
out_low k n h = simp (lt-ltb k 1 h)

pub out_high : (k n : ℕ) → n < k → absent k n ≡ true
unfolding absent
out_high k n h = simp (lt-ltb n k h, or_true)

-- 24, then another test
pub first_24 : (t : Bool) (o : Option Outcome) → t ≡ true → (refuse_if 24 t or_else o) ≡ some (refused 24 0)
unfolding refuse_if ◌or_else◌
first_24 t o e = rw e refl

pub past_24 : (t : Bool) (o : Option Outcome) → t ≡ false → (refuse_if 24 t or_else o) ≡ o
unfolding refuse_if ◌or_else◌
past_24 t o e = rw e refl

pub when : (k p : ℕ) (t : Bool) → t ≡ true → refuse_when k p t ≡ some (refused k p)
unfolding refuse_when
when k p t e = rw e refl

pub not_when : (k p : ℕ) (t : Bool) → t ≡ false → refuse_when k p t ≡ none
unfolding refuse_when
not_when k p t e = rw e refl

-- a refusal changes no cell
pub refuses : (m n : ℕ) (call : Call) (before : List ℕ) (r : Outcome) → refusal_in call (state_at m n before) ≡ some r → Acted m n call before before (some r)
refuses m n call before r e = record { refusal = sym e; cells = refl }

pub works : (m n : ℕ) (call : Call) (before after : List ℕ) → refusal_in call (state_at m n before) ≡ none → after ≡ writes m n call before
    → Acted m n call before after none
works m n call before after e c = record { refusal = sym e; cells = c }

module _ (s : State) (k : ℕ) where
  pub mark_24 : absent k 8 ≡ true → refusal_in (set_mark k) s ≡ some (refused 24 0)
  unfolding refusal_in refuse_if
  mark_24 e = rw (e, refusal_in) refl

  pub mark_none : absent k 8 ≡ false → refusal_in (set_mark k) s ≡ none
  unfolding refusal_in refuse_if
  mark_none e = rw (e, refusal_in) refl

  pub back_24 : absent k 8 ≡ true → refusal_in (go_back k) s ≡ some (refused 24 0)
  unfolding refusal_in
  back_24 e = first_24 (absent k 8) (refuse_when 25 k (unset (s.marks k))) e

  pub back_25 : absent k 8 ≡ false → unset (s.marks k) ≡ true → refusal_in (go_back k) s ≡ some (refused 25 k)
  unfolding refusal_in
  back_25 e u = past_24 (absent k 8) (refuse_when 25 k (unset (s.marks k))) e ∙ when 25 k (unset (s.marks k)) u

  pub back_none : absent k 8 ≡ false → unset (s.marks k) ≡ false → refusal_in (go_back k) s ≡ none
  unfolding refusal_in
  back_none e u = past_24 (absent k 8) (refuse_when 25 k (unset (s.marks k))) e ∙ not_when 25 k (unset (s.marks k)) u

-- whether a mark is set, by its flag
module _ (m n : ℕ) (cells : List ℕ) (k : ℕ) (e : absent k 8 ≡ false) where
  pub flag_unset : get_or cells (1 + k) 0 ≡ 0 → unset ((state_at m n cells).marks k) ≡ true
  unfolding state_at mark_in
  flag_unset f = rw (e, eq-eqb (get_or cells (1 + k) 0) 0 f) refl

  pub flag_set : (get_or cells (1 + k) 0 ≡ 0 → ⊥) → unset ((state_at m n cells).marks k) ≡ false
  unfolding state_at mark_in
  flag_set f = rw (e, ne_eqb (get_or cells (1 + k) 0) 0 f) refl
