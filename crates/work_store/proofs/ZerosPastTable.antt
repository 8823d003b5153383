-- Zeros past the table: no state changes, and a greater a_1 then shows them. Assumes nothing.
use mathlib.Core.Path.{◌≡◌, sym, ap, ◌∙◌}
use mathlib.Core.List.{List, map}
use Prim.Native.Nat.{ℕ, ◌+◌, ◌-◌, ◌*◌, ◌≤◌, ◌<◌}
use native.Mathlib.Omega.{arith}
use lib.ListN.{length, get_or, set, take, drop, replicate, length-replicate, get_or-replicate}
use lib.Seq.{length-paste}
use Rattle.work_store.specs.State.{State}
use Rattle.work_store.specs.Calls.{edit_supply, acted, with_case, with_supply}
use Rattle.work_store.specs.Store.{supplies_at, demands_at, costs_at, ceilings_at, table_at, in_case, width, start, slot, cost_in, entries_for, entries_in, draft_in, state_at, zeroed, extended}
use Rattle.work_store.specs.inner.OpenStore.{Open}
use Rattle.work_store.proofs.ListParts.{part_ext, copy_below, copy_in, copy_above}
use Rattle.work_store.proofs.Slots.{start_0, slot_room, slots_apart, case_cell, slot_length}
use Rattle.work_store.proofs.StoreInSlot.{draft_eq, first_draft}
use Rattle.work_store.proofs.StateAfterWrites.{state_eq, mark_eq, edit_state}
use Rattle.work_store.proofs.CaseCells.{few_entries, case_at, first_cell, case_cells, room_0}

-- the first cell past the table, and how many cells are made 0
abbrev past : ℕ → ℕ → List ℕ → ℕ
past m n cells = in_case (table_at m n + entries_in cells)

abbrev lacking : ℕ → List ℕ → ℕ
lacking c cells = c - entries_in cells

module _ (m n : ℕ) (cells : List ℕ) (op : Open m n cells) (c : ℕ) (small : c ≤ 4001) where
  room : past m n cells + lacking c cells ≤ length cells
  room = omega (arith, room_0 m n cells op, few_entries cells)

  reps : lacking c cells ≤ length (replicate (lacking c cells) (let x : ℕ = 0 in x))
  reps = omega (arith, length-replicate (lacking c cells) (let x : ℕ = 0 in x))

  pub ext_length : length (extended m n c cells) ≡ length cells
  unfolding extended zeroed
  ext_length = length-paste cells (past m n cells) (replicate (lacking c cells) 0) (lacking c cells) room reps

  pub ext_low : (i : ℕ) → i < past m n cells → get_or (extended m n c cells) i 0 ≡ get_or cells i 0
  unfolding extended zeroed
  ext_low i h = copy_below cells (past m n cells) (replicate (lacking c cells) 0) (lacking c cells) room reps i h

  ext_high : (i : ℕ) → past m n cells + lacking c cells ≤ i → get_or (extended m n c cells) i 0 ≡ get_or cells i 0
  unfolding extended zeroed
  ext_high i h = copy_above cells (past m n cells) (replicate (lacking c cells) 0) (lacking c cells) room reps i h

  ext_here : (i : ℕ) → i < lacking c cells → get_or (extended m n c cells) (past m n cells + i) 0 ≡ 0
  unfolding extended zeroed
  ext_here i h =
      copy_in cells (past m n cells) (replicate (lacking c cells) 0) (lacking c cells) room reps i h ∙ get_or-replicate {A = ℕ} (lacking c cells) i 0 0 h

  ext_open : Open m n (extended m n c cells)
  ext_open = record { two = op.two; few = op.few; one = op.one; many = op.many; room = omega (arith, ext_length, op.room) }

  ext_part : (a l : ℕ) → a + l ≤ past m n cells → take l (drop a (extended m n c cells)) ≡ take l (drop a cells)
  ext_part a l h = part_ext l a a (extended m n c cells) cells (omega (arith, ext_length, room)) (omega (arith, room)) (λ i g. ext_low (a + i) (omega arith))

  ext_first : get_or (extended m n c cells) (in_case supplies_at) 0 ≡ get_or cells (in_case supplies_at) 0
  ext_first = ext_low 13 (omega (arith, op.two))

  ext_slot : (k : ℕ) → 1 ≤ k → k ≤ 8 → slot m n k (extended m n c cells) ≡ slot m n k cells
  unfolding slot width
  ext_slot k a b =
      part_ext (width m n) (start m n k) (start m n k) (extended m n c cells) cells
      (omega (arith, ext_length, slot_room m n k (length cells) b op.room)) (slot_room m n k (length cells) b op.room)
      (λ i g. ext_high (start m n k + i) (omega (arith, start_0 m n, slots_apart m n 0 k a, few_entries cells)))

  ext_case : case_at m n (extended m n c cells) ≡ case_at m n cells
  unfolding entries_in
  ext_case =
      let E = extended m n c cells in
      draft_eq m n (ext_low 11 (omega arith)) (ext_low 12 (omega arith)) (ext_part (in_case supplies_at) m (omega arith))
      (ext_part (in_case (demands_at m)) n (omega arith)) (ap (map cost_in) (ext_part (in_case (costs_at m n)) (m * n) (omega arith)))
      (ext_part (in_case (ceilings_at m n)) (m * n) (omega arith))
      (ap (λ (k : ℕ). take (entries_for k) (drop (in_case (table_at m n)) E)) ext_first ∙ ext_part (in_case (table_at m n)) (entries_for (get_or cells (in_case supplies_at) 0)) (omega arith))

  ext_state : state_at m n (extended m n c cells) ≡ state_at m n cells
  unfolding state_at
  ext_state =
      state_eq _ _ (case_cells m n (extended m n c cells) ext_open ∙ ext_case ∙ sym (case_cells m n cells op))
      (λ k. mark_eq m n (extended m n c cells) cells k (λ a b. ext_low (1 + k) (omega arith)) (λ a b. ext_slot k a b))

module _ (m n : ℕ) (cells : List ℕ) (op : Open m n cells) (v : ℕ) (small : v ≤ 4000) where
  few : v + 1 ≤ 4001
  few = omega arith

  E : List ℕ
  E = extended m n (v + 1) cells

  opened : Open m n E
  unfolding E
  opened = ext_open m n cells op (v + 1) few

  long : length (slot m n 0 E) ≡ width m n
  long = slot_length m n E opened.room 0 (omega arith)

  zeros : (y : ℕ) → entries_for (get_or (slot m n 0 E) supplies_at 0) ≤ y → y < v + 1 → get_or (slot m n 0 E) (table_at m n + y) 0 ≡ 0
  unfolding width entries_in E
  zeros y a b =
      let f : get_or (slot m n 0 E) supplies_at 0 ≡ get_or cells (in_case supplies_at) 0 = first_cell m n E opened ∙ ext_first m n cells op (v + 1) few in
      let g : entries_in cells ≤ y = omega (arith, ap entries_for f) in
      case_cell m n E opened.room (table_at m n + y) (omega arith)
      ∙ ap (λ (k : ℕ). get_or E k 0) (let q : in_case (table_at m n + y) ≡ past m n cells + (y - entries_in cells) = omega arith in q)
      ∙ ext_here m n cells op (v + 1) few (y - entries_in cells) (omega arith)

  -- a_1 altered
  pub first_state : state_at m n (set (extended m n (v + 1) cells) (in_case supplies_at) v) ≡ acted (edit_supply 1 v) (state_at m n cells)
  unfolding acted width state_at E
  first_state =
      edit_state m n E opened supplies_at v (with_supply 1 v (draft_in m n (slot m n 0 E))) (omega arith)
      (first_draft m n (slot m n 0 E) v (omega (arith, op.two)) small (omega (arith, long)) zeros)
      ∙ ap (λ (s : State). with_case (with_supply 1 v s.case) s) (ext_state m n cells op (v + 1) few)
