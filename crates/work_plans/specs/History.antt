-- A history of calls on one store. Assumes nothing.
use Rattle.std.proofs.Math.Option.{Option}
use Rattle.std.specs.Prelude.{List, [], ◌∷◌, ℕ}
use Rattle.problem.specs.Outcome.{Outcome}
use Rattle.work_store.specs.Calls.{Call}
use Rattle.work_store.specs.Promise.{Performed}

-- the calls lead from one store to another: between calls the store stays as the last call left it
pub data Leads : List Call → List ℕ → List ℕ → Type 0 where
  start : {cells : List ℕ} → Leads [] cells cells
  then : {c : Call} {h : List Call} {before after last : List ℕ} {r : Option Outcome}
      → Performed c before after r → Leads h after last → Leads (c ∷ h) before last
