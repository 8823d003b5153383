-- What is promised of a deed on a store, by its role. Assumes nothing.
use Rattle.std.specs.Prelude.{◌≡◌, List, ℕ, ℤ, length}
use Rattle.std.proofs.Math.Option.{Option, none, some}
use Rattle.problem.specs.Outcome.{Outcome, ◌or_else◌}
use Rattle.planner.specs.Answer.{Slices}
use Rattle.work_store.specs.State.{State}
use Rattle.work_store.specs.Calls.{Call, go_back}
use Rattle.work_store.specs.Store.{held_in, sources, terminals, writes}
use Rattle.work_store.specs.Promise.{answer_to, steps, cells_unless}
use Rattle.work_plans.specs.Planning.{PlannedUnless}
use Rattle.work_store.specs.Seeing.{tariff_answer, table_answer, limits_answer, marks_answer, shown_unless, costs_in, supplies_in, demands_in, table_in, runs_in, ceilings_in, flags_in}
use Rattle.roletable.specs.Deeds.{work, see_tariff, see_table, plan, test31}

-- the answer to a call: 31 first of all
unfoldable pub answer_by : ℕ → Call → Option State → Option Outcome
answer_by role call held = test31 role (work call) or_else answer_to call held

-- a role that may not call changes nothing
abbrev pub unless_held : Option Outcome → Option State → Option State → Option State
unless_held none new old = new
unless_held (some r) new old = old

unfoldable pub steps_by : ℕ → Call → Option State → Option State
steps_by role call held = unless_held (test31 role (work call)) (steps call held) held

pub record PerformedBy (role : ℕ) (call : Call) (before after : List ℕ) (r : Option Outcome) : Type 0 where
  pub answer : r ≡ answer_by role call (held_in before)
  pub cells : after ≡ cells_unless r (writes (sources before) (terminals before) call before) before
  pub state : held_in after ≡ steps_by role call (held_in before)

-- planning: all that the planner promises of the working case
abbrev pub PlannedBy : ℕ → Option State → ℕ → ℕ → ℕ → Outcome → Slices → Slices → Type 0
PlannedBy role held p q f r before after = PlannedUnless (test31 role plan) held p q f r before after

-- planning a mark: 31, then as going back to it is refused, else what planning after going back gives
abbrev pub MarkPlannedBy : ℕ → ℕ → Option State → ℕ → ℕ → ℕ → Outcome → Slices → Slices → Type 0
MarkPlannedBy role k held p q f r before after =
    PlannedUnless (test31 role plan or_else answer_to (go_back k) held) (steps (go_back k) held) p q f r before after

-- the three lent slices of the tariff
pub record TariffSeen (role : ℕ) (held : Option State) (c : List ℤ) (s d : List ℕ) (c' : List ℤ) (s' d' : List ℕ) (r : Option Outcome) : Type 0 where
  pub answer : r ≡ (test31 role see_tariff or_else tariff_answer (length c) (length s) (length d) held)
  pub costs : c' ≡ shown_unless r (costs_in held) c
  pub supplies : s' ≡ shown_unless r (supplies_in held) s
  pub demands : d' ≡ shown_unless r (demands_in held) d

pub record TableSeen (role : ℕ) (held : Option State) (t t' : List ℕ) (r : Option Outcome) : Type 0 where
  pub answer : r ≡ (test31 role see_table or_else table_answer (length t) held)
  pub table : t' ≡ shown_unless r (table_in held) t

-- the two lent slices of the limits: runs, then ceilings
pub record LimitsSeen (role : ℕ) (held : Option State) (u c u' c' : List ℕ) (r : Option Outcome) : Type 0 where
  pub answer : r ≡ (test31 role plan or_else limits_answer (length u) (length c) held)
  pub runs : u' ≡ shown_unless r (runs_in held) u
  pub ceilings : c' ≡ shown_unless r (ceilings_in held) c

pub record MarksSeen (role : ℕ) (held : Option State) (f f' : List ℕ) (r : Option Outcome) : Type 0 where
  pub answer : r ≡ (test31 role plan or_else marks_answer (length f) held)
  pub flags : f' ≡ shown_unless r (flags_in held) f
