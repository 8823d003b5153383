-- What the functions on an open store ask and keep. Assumes nothing.
use Rattle.std.specs.Prelude.{◌≡◌, cond, ◌⊎◌, List, ℕ, ◌+◌, ◌*◌, ◌≤◌, ◌<◌, eqb, length, get_or, Result, Ok, Err}
use Rattle.std.proofs.Math.Option.{Option}
use Rattle.problem.specs.Range.{AllInside}
use Rattle.problem.specs.Outcome.{Outcome}
use Rattle.refusal.specs.declared.Cause.{Cause}
use Rattle.refusal.specs.declared.Cause.TheVariants.{Room}
use Rattle.work_store.specs.declared.layout.Layout.{Layout}
use Rattle.work_store.specs.State.{Draft}
use Rattle.work_store.specs.Calls.{Call, refusal_in}
use Rattle.work_store.specs.Store.{cells_for, table_at, state_at, sources, terminals, opens, in_case, writes}
use Rattle.work_store.specs.Promise.{cells_unless}

-- the layout of a size
abbrev pub laid : ℕ → ℕ → Layout
laid m n = record { m = m; n = n }

-- the layout of the working case in the store, if there is one
unfoldable pub opened_of : List ℕ → Result Layout Cause
opened_of cells = cond (opens cells) (Ok (laid (sources cells) (terminals cells))) (Err Room)

-- an open store of a size
pub record Open (m n : ℕ) (cells : List ℕ) : Type 0 where
  pub two : 2 ≤ m
  pub few : m ≤ 32
  pub one : 1 ≤ n
  pub many : n ≤ 64
  pub room : cells_for m n ≤ length cells

-- cells that begin as a store does: what stands before the slots, whatever it is, and one whole slot
pub record Front (m n : ℕ) (cells : List ℕ) : Type 0 where
  pub few : m ≤ 32
  pub many : n ≤ 64
  pub room : in_case (table_at m n) + 4001 ≤ length cells

-- what a call does in an open store
pub record Acted (m n : ℕ) (call : Call) (before after : List ℕ) (r : Option Outcome) : Type 0 where
  pub refusal : r ≡ refusal_in call (state_at m n before)
  pub cells : after ≡ cells_unless r (writes m n call before) before

-- two ranges of cells within a list, one before the other
pub record Apart (from to count : ℕ) (cells : List ℕ) : Type 0 where
  pub from_room : from + count ≤ length cells
  pub to_room : to + count ≤ length cells
  pub apart : (from + count ≤ to) ⊎ (to + count ≤ from)

-- two slots, not the same
pub record Slots (from to : ℕ) : Type 0 where
  pub from_slot : from ≤ 8
  pub to_slot : to ≤ 8
  pub differ : (from < to) ⊎ (to < from)

-- a draft whose lists have the lengths of its size, with room for it in the store
pub record Sized (d : Draft) (cells : List ℕ) : Type 0 where
  pub opening : Open d.m d.n cells
  pub supplies_long : length d.supplies ≡ d.m
  pub demands_long : length d.demands ≡ d.n
  pub costs_long : length d.costs ≡ d.m * d.n
  pub costs_inside : AllInside d.costs
  pub ceilings_long : length d.ceilings ≡ d.m * d.n
  pub first_small : get_or d.supplies 0 0 ≤ 4000
  pub table_long : length d.table ≡ get_or d.supplies 0 0 + 1

-- the least run of source i in the store, 0 of a depot
unfoldable pub run_in : List ℕ → ℕ → ℕ
run_in cells i = cond (eqb i 1) (get_or cells (in_case 0) 0) (cond (eqb i 2) (get_or cells (in_case 1) 0) 0)
