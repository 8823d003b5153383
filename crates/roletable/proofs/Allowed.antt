-- The whole table with its exception, against the paper's sentences. Assumes nothing.
use mathlib.Core.Path.{◌≡◌, refl, ap}
use mathlib.Core.Bool.{Bool, true, false}
use mathlib.Core.List.{List, [], ◌∷◌, map}
use mathlib.Core.Option.{Option, none, some}
use Prim.Native.Nat.{ℕ}
use lib.IntN.{ℤ}
use Rattle.transport.specs.Listing.{up_from}
use Rattle.problem.specs.Outcome.{Outcome, refuse_if, ◌or_else◌}
use Rattle.work_store.specs.State.{State}
use Rattle.work_store.specs.Promise.{answer_to}
use Rattle.work_store.specs.Calls.{Call, edit_demand, edit_supply, edit_cost, edit_entry, set_mark, go_back}
use Rattle.roletable.specs.Roles.{no_role, barred, barred_first}
use Rattle.roletable.specs.Promise.{answer_by}
use Rattle.roletable.specs.Deeds.{Deed, work, see_tariff, see_table, plan, column, first, test31}

-- 31 comes first: a role that may not call is told so, whatever the store holds
pub told_first : (role : ℕ) (call : Call) (r : Outcome) (held : Option State) → test31 role (work call) ≡ some r → answer_by role call held ≡ some r
unfolding answer_by ◌or_else◌
told_first role call r held e = ap (λ (t : Option Outcome). t or_else answer_to call held) e

-- every kind of deed in the paper's order, whatever is edited to what; editing a_1 stands behind editing another supply
unfoldable pub deeds : ℕ → ℕ → ℤ → ℕ → ℕ → List Deed
deeds i j c y k =
    work (edit_demand j y)
    ∷ work (edit_supply 2 y)
    ∷ work (edit_supply 1 y)
    ∷ work (edit_cost i j c)
    ∷ work (edit_entry y k)
    ∷ see_tariff
    ∷ see_table
    ∷ plan
    ∷ work (set_mark k)
    ∷ work (go_back k)
    ∷ []

-- refusal 31 is not told
unfoldable pub granted : Option Outcome → Bool
granted none = true
granted (some r) = false

-- No role 0; a planner may do all; plant may edit entries and see tariff and table; depot may edit demand and supply, except a_1, and see the
-- tariff; a reader may see the tariff; no role 5.
pub as_said : (i j : ℕ) (c : ℤ) (y k : ℕ) → map (λ role. map (λ deed. granted (test31 role deed)) (deeds i j c y k)) (up_from 0 6)
    ≡ (false ∷ false ∷ false ∷ false ∷ false ∷ false ∷ false ∷ false ∷ false ∷ false ∷ [])
    ∷ (true ∷ true ∷ true ∷ true ∷ true ∷ true ∷ true ∷ true ∷ true ∷ true ∷ [])
    ∷ (false ∷ false ∷ false ∷ false ∷ true ∷ true ∷ true ∷ false ∷ false ∷ false ∷ [])
    ∷ (true ∷ true ∷ false ∷ false ∷ false ∷ true ∷ false ∷ false ∷ false ∷ false ∷ [])
    ∷ (false ∷ false ∷ false ∷ false ∷ false ∷ true ∷ false ∷ false ∷ false ∷ false ∷ [])
    ∷ (false ∷ false ∷ false ∷ false ∷ false ∷ false ∷ false ∷ false ∷ false ∷ false ∷ [])
    ∷ []
unfolding deeds granted up_from test31 refuse_if column first barred barred_first no_role
as_said i j c y k = refl
