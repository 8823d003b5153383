-- The deeds on a working case, and refusal 31, which is tested first of all (W-212). Assumes nothing.
use Rattle.std.specs.Prelude.{Bool, false, ◌||◌, ◌&&◌, ℕ, eqb}
use Rattle.std.proofs.Math.Option.{Option}
use Rattle.problem.specs.Outcome.{Outcome, refuse_if}
use Rattle.work_store.specs.Calls.{Call, edit_demand, edit_supply, edit_cost, edit_entry, set_mark, go_back}
use Rattle.roletable.specs.Roles.{barred, barred_first}

pub data Deed : Type 0 where
  -- an edit, a mark or a return
  work : Call → Deed
  see_tariff : Deed
  see_table : Deed
  -- planning; planning a mark, seeing the limits and asking which marks are set count as it, and so are the planner's alone
  plan : Deed

-- the deed's number, its column in the table
unfoldable pub column : Deed → ℕ
column (work (edit_demand j v)) = 1
column (work (edit_supply i v)) = 1
column (work (edit_cost i j v)) = 2
column (work (edit_entry y v)) = 3
column see_tariff = 4
column see_table = 5
column plan = 6
column (work (set_mark k)) = 7
column (work (go_back k)) = 8

-- the deed alters a_1
unfoldable pub first : Deed → Bool
first (work (edit_demand j v)) = false
first (work (edit_supply i v)) = eqb i 1
first (work (edit_cost i j v)) = false
first (work (edit_entry y v)) = false
first (work (set_mark k)) = false
first (work (go_back k)) = false
first see_tariff = false
first see_table = false
first plan = false

-- a deed the role may not do, or a role that is none of the four
unfoldable pub test31 : ℕ → Deed → Option Outcome
test31 role deed = refuse_if 31 (barred role (column deed) || (first deed && barred_first role))
