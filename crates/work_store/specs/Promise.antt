-- What is promised of a call on a store. Assumes nothing.
use Rattle.std.specs.Prelude.{◌≡◌, List, ℕ, ltb, length}
use Rattle.std.proofs.Math.Option.{Option, none, some}
use Rattle.transport.specs.Curve.{written}
use Rattle.problem.specs.Outcome.{Outcome, refused, refuse_if, ◌or_else◌, form_refusal}
use Rattle.work_store.specs.State.{Draft, State, lent_with, entered}
use Rattle.work_store.specs.Calls.{Call, refusal_in, step}
use Rattle.work_store.specs.Store.{held_in, sources, terminals, writes, cells_for, cells_of}

-- the answer to a call by what the store holds: none where it is done; a store that holds no working case is refused by 11
abbrev pub answer_to : Call → Option State → Option Outcome
answer_to call none = some (refused 11 0)
answer_to call (some s) = refusal_in call s

abbrev pub steps : Call → Option State → Option State
steps call none = none
steps call (some s) = some (step call s)

-- the cells after a call: as they were where it is refused
abbrev pub cells_unless : Option Outcome → List ℕ → List ℕ → List ℕ
cells_unless none new old = new
cells_unless (some r) new old = old

pub record Performed (call : Call) (before after : List ℕ) (r : Option Outcome) : Type 0 where
  -- the answer, from the input alone
  pub answer : r ≡ answer_to call (held_in before)
  -- each cell
  pub cells : after ≡ cells_unless r (writes (sources before) (terminals before) call before) before
  -- the state
  pub state : held_in after ≡ steps call (held_in before)

-- tests 1 to 6 of a case, with 23 after 4 and 26 after 5; then 11 for a short store
unfoldable pub entry_refusal : Draft → ℕ → Option Outcome
entry_refusal d cells = form_refusal (lent_with d 0 0 0) or_else refuse_if 11 (ltb cells (cells_for d.m d.n))

pub record Entered (d : Draft) (before after : List ℕ) (r : Option Outcome) : Type 0 where
  pub answer : r ≡ entry_refusal d (length before)
  pub cells : after ≡ cells_unless r (written (cells_of d) before) before
  pub state : r ≡ none → held_in after ≡ some (entered d)
