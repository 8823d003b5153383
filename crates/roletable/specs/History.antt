-- Which calls of a history by roles work on the case (W-204 with W-212). Assumes nothing.
use Rattle.std.proofs.Math.Option.{Option, none, some}
use Rattle.std.specs.Prelude.{List, [], ◌∷◌, ◌++◌, ℕ}
use Rattle.problem.specs.Outcome.{Outcome}
use Rattle.work_store.specs.Calls.{Call}
use Rattle.roletable.specs.Deeds.{work, test31}
use Rattle.roletable.specs.Secrecy.{Asked, act, tariff, table, planning, mark_planning, limits, marks, By}

-- a call, where 31 is not told
abbrev pub let_in : Option Outcome → Call → List Call
let_in none call = call ∷ []
let_in (some r) call = []

-- seeing and planning leave the case as it is
unfoldable pub work_of : ℕ → Asked → List Call
work_of role (act call) = let_in (test31 role (work call)) call
work_of role (tariff c s d) = []
work_of role (table t) = []
work_of role (planning old) = []
work_of role (mark_planning k old) = []
work_of role (limits u c) = []
work_of role (marks f) = []

-- the edits, marks and returns that the callers may make, in their order; those that the case refuses are among them
unfoldable pub calls_of : List By → List Call
calls_of [] = []
calls_of (c ∷ h) = work_of c.role c.ask ++ calls_of h
