-- The working case by the store's own cells. Assumes nothing.
use mathlib.Core.Path.{◌≡◌, ap, ◌∙◌}
use mathlib.Core.List.{List, map}
use Prim.Native.Nat.{ℕ, ◌+◌, ◌*◌, ◌≤◌}
use native.Mathlib.Nat.{mul-le-mul}
use native.Mathlib.Omega.{arith}
use lib.ListN.{length, get_or, take, drop, length-drop}
use Rattle.work_store.specs.State.{Draft}
use Rattle.work_store.specs.Store.{cells_for, supplies_at, demands_at, costs_at, ceilings_at, table_at, in_case, width, start, slot, cost_in, entries_for, entries_in, draft_in, state_at}
use Rattle.work_store.specs.inner.OpenStore.{Open, Front}
use Rattle.work_store.proofs.ListParts.{part_length}
use Rattle.work_store.proofs.Slots.{start_0, slot_room, front_part, front_cell}
use Rattle.work_store.proofs.StoreInSlot.{draft_eq}

pub few_entries : (cells : List ℕ) → entries_in cells ≤ 4001
unfolding entries_in entries_for
few_entries cells = omega arith

-- the case in the cells
abbrev pub case_at : ℕ → ℕ → List ℕ → Draft
case_at m n cells = record {
  m = m;
  n = n;
  run1 = get_or cells (in_case 0) 0;
  run2 = get_or cells (in_case 1) 0;
  supplies = take m (drop (in_case supplies_at) cells);
  demands = take n (drop (in_case (demands_at m)) cells);
  costs = map cost_in (take (m * n) (drop (in_case (costs_at m n)) cells));
  ceilings = take (m * n) (drop (in_case (ceilings_at m n)) cells);
  table = take (entries_in cells) (drop (in_case (table_at m n)) cells);
}

module _ (m n : ℕ) (cells : List ℕ) (o : Front m n cells) where
  whole : start m n 0 + width m n ≤ length cells
  unfolding width
  whole = omega (arith, start_0 m n, o.room)

  front_first : get_or (slot m n 0 cells) supplies_at 0 ≡ get_or cells (in_case supplies_at) 0
  unfolding width
  front_first = front_cell m n cells whole 2 (omega arith)

  pub front_cells : draft_in m n (slot m n 0 cells) ≡ case_at m n cells
  unfolding draft_in width entries_in
  front_cells =
      let few : entries_for (get_or cells (in_case supplies_at) 0) ≤ 4001 = few_entries cells in
      draft_eq m n (front_cell m n cells whole 0 (omega arith)) (front_cell m n cells whole 1 (omega arith)) (front_part m n cells whole supplies_at m (omega arith))
      (front_part m n cells whole (demands_at m) n (omega arith)) (ap (map cost_in) (front_part m n cells whole (costs_at m n) (m * n) (omega arith)))
      (front_part m n cells whole (ceilings_at m n) (m * n) (omega arith))
      (ap (λ (k : ℕ). take (entries_for k) (drop (table_at m n) (slot m n 0 cells))) front_first
      ∙ front_part m n cells whole (table_at m n) (entries_for (get_or cells (in_case supplies_at) 0)) (omega arith))

  pub front_room : in_case (table_at m n) + 4001 ≤ length cells
  front_room = o.room

  pub front_lanes : m * n ≤ 2048
  front_lanes = mul-le-mul o.few o.many

module _ (m n : ℕ) (cells : List ℕ) (o : Open m n cells) where
  -- slot k of an open store, as the first slot of what follows k slots
  pub slot_fits : (k : ℕ) → k ≤ 8 → Front m n (drop (k * width m n) cells)
  unfolding width start
  slot_fits k h = record {
    few = o.few;
    many = o.many;
    room = omega (arith, length-drop (k * width m n) cells, slot_room m n k (length cells) h o.room);
  }

  front : Front m n cells
  unfolding cells_for
  front = record { few = o.few; many = o.many; room = omega (arith, o.room) }

  pub first_cell : get_or (slot m n 0 cells) supplies_at 0 ≡ get_or cells (in_case supplies_at) 0
  first_cell = front_first m n cells front

  pub case_cells : (state_at m n cells).case ≡ case_at m n cells
  unfolding state_at
  case_cells = front_cells m n cells front

  -- ---- numbers that fit

  pub room_0 : in_case (table_at m n) + 4001 ≤ length cells
  unfolding cells_for
  room_0 = omega (arith, o.room)

  pub lanes_few : m * n ≤ 2048
  lanes_few = mul-le-mul o.few o.many

  -- how many entries the working case has
  pub entries_long : length (state_at m n cells).case.table ≡ entries_in cells
  entries_long =
      ap (λ (d : Draft). length d.table) case_cells ∙ part_length (entries_in cells) (in_case (table_at m n)) cells (omega (arith, room_0, few_entries cells))
