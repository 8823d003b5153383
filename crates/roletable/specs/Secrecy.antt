-- What depot and reader must not learn (W-212). Assumes nothing.
use Rattle.std.specs.Prelude.{◌≡◌, ◌⊎◌, List, [], ◌∷◌, ℕ, ℤ, length, replicate}
use Rattle.std.proofs.Math.Option.{Option, none, some}
use Rattle.problem.specs.Outcome.{Outcome}
use Rattle.planner.specs.Answer.{Slices}
use Rattle.work_store.specs.State.{Draft, State}
use Rattle.work_store.specs.Calls.{Call, edited}
use Rattle.work_store.specs.Store.{held_in}
use Rattle.roletable.specs.Promise.{PerformedBy, PlannedBy, MarkPlannedBy, TariffSeen, TableSeen, LimitsSeen, MarksSeen}

-- a case with every entry 0
abbrev pub veiled_case : Draft → Draft
veiled_case d = edited d d.supplies d.demands d.costs (replicate (length d.table) 0)

abbrev pub veiled_mark : Option Draft → Option Draft
veiled_mark none = none
veiled_mark (some d) = some (veiled_case d)

-- a working case with every entry 0, in the case and its marks
abbrev pub veiled : State → State
veiled s = record { case = veiled_case s.case; marks = λ k. veiled_mark (s.marks k) }

abbrev pub veiled_held : Option State → Option State
veiled_held none = none
veiled_held (some s) = some (veiled s)

-- two stores whose working cases are alike but for production entries, in the case and its marks
abbrev pub Alike : List ℕ → List ℕ → Type 0
Alike a b = veiled_held (held_in a) ≡ veiled_held (held_in b)

-- depot or reader
abbrev pub Outsider : ℕ → Type 0
Outsider role = (role ≡ 3) ⊎ (role ≡ 4)

-- a call, with what the slices hold that are lent to it; entering is none of these: it takes no role, and who enters a case knows its entries
pub data Asked : Type 0 where
  act : Call → Asked
  tariff : List ℤ → List ℕ → List ℕ → Asked
  table : List ℕ → Asked
  planning : Slices → Asked
  mark_planning : ℕ → Slices → Asked
  limits : List ℕ → List ℕ → Asked
  marks : List ℕ → Asked

-- what a caller gets: the answer or the refusal, and what the lent slices hold then
pub data Heard : Type 0 where
  verdict : Option Outcome → Heard
  costs : Option Outcome → List ℤ → List ℕ → List ℕ → Heard
  entries : Option Outcome → List ℕ → Heard
  plan : Outcome → Slices → Heard
  runs : Option Outcome → List ℕ → List ℕ → Heard
  flags : Option Outcome → List ℕ → Heard

-- ---- a call on a store, as the functions promise it: store before and after, and what the caller gets

pub record Did (role : ℕ) (call : Call) (before after : List ℕ) (x : Heard) : Type 0 where
  pub r : Option Outcome
  pub done : PerformedBy role call before after r
  pub gets : x ≡ verdict r

pub record Saw (role : ℕ) (c : List ℤ) (s d : List ℕ) (before after : List ℕ) (x : Heard) : Type 0 where
  pub r : Option Outcome
  pub c' : List ℤ
  pub s' : List ℕ
  pub d' : List ℕ
  pub seen : TariffSeen role (held_in before) c s d c' s' d' r
  pub gets : x ≡ costs r c' s' d'
  -- the store is lent to be read alone
  pub stays : after ≡ before

pub record Looked (role : ℕ) (t : List ℕ) (before after : List ℕ) (x : Heard) : Type 0 where
  pub r : Option Outcome
  pub t' : List ℕ
  pub seen : TableSeen role (held_in before) t t' r
  pub gets : x ≡ entries r t'
  pub stays : after ≡ before

pub record Tried (role : ℕ) (old : Slices) (before after : List ℕ) (x : Heard) : Type 0 where
  pub r : Outcome
  pub new : Slices
  pub done : PlannedBy role (held_in before) (length old.plan) (length old.splits) (length old.freights) r old new
  pub gets : x ≡ plan r new
  pub stays : after ≡ before

pub record TriedMark (role k : ℕ) (old : Slices) (before after : List ℕ) (x : Heard) : Type 0 where
  pub r : Outcome
  pub new : Slices
  pub done : MarkPlannedBy role k (held_in before) (length old.plan) (length old.splits) (length old.freights) r old new
  pub gets : x ≡ plan r new
  pub stays : after ≡ before

pub record SawLimits (role : ℕ) (u c : List ℕ) (before after : List ℕ) (x : Heard) : Type 0 where
  pub r : Option Outcome
  pub u' : List ℕ
  pub c' : List ℕ
  pub seen : LimitsSeen role (held_in before) u c u' c' r
  pub gets : x ≡ runs r u' c'
  pub stays : after ≡ before

pub record SawMarks (role : ℕ) (f : List ℕ) (before after : List ℕ) (x : Heard) : Type 0 where
  pub r : Option Outcome
  pub f' : List ℕ
  pub seen : MarksSeen role (held_in before) f f' r
  pub gets : x ≡ flags r f'
  pub stays : after ≡ before

abbrev pub Made : ℕ → Asked → List ℕ → List ℕ → Heard → Type 0
Made role (act call) before after x = Did role call before after x
Made role (tariff c s d) before after x = Saw role c s d before after x
Made role (table t) before after x = Looked role t before after x
Made role (planning old) before after x = Tried role old before after x
Made role (mark_planning k old) before after x = TriedMark role k old before after x
Made role (limits u c) before after x = SawLimits role u c before after x
Made role (marks f) before after x = SawMarks role f before after x

-- a caller's role and call
pub record By : Type 0 where
  pub role : ℕ
  pub ask : Asked

-- a history on one store, and all that its callers get: between calls the store stays as the last call left it
unfoldable pub Goes : List By → List ℕ → List ℕ → List Heard → Type 0
Goes [] before last l = (last ≡ before) × (l ≡ [])
Goes (c ∷ h) before last l =
    (after : List ℕ) × (x : Heard) × (rest : List Heard) × Made c.role c.ask before after x × Goes h after last rest × (l ≡ x ∷ rest)

-- nobody but depot and reader calls
pub data Outside : List By → Type 0 where
  ends : Outside []
  more : {c : By} {h : List By} → Outsider c.role → Outside h → Outside (c ∷ h)
