-- The slots of a store. Assumes nothing.
use mathlib.Core.Path.{◌≡◌, refl, sym, ap, ◌∙◌}
use mathlib.Core.List.{List}
use Prim.Native.Nat.{ℕ, ◌+◌, ◌*◌, ◌≤◌, ◌<◌}
use mathlib.Core.Logic.{inl, inr, ⊎_elim}
use native.Mathlib.Nat.{suc-mul, mul-le-mul, mul-le-mul_right}
use native.Mathlib.Decide.{dec_lt}
use native.Mathlib.Omega.{arith}
use lib.ListN.{length, get_or, set, take, drop, length-drop}
use lib.Seq.{paste, length-paste, get_or-drop, drop-drop, drop-set-lt, drop-set-add, take-set-lt}
use Rattle.work_store.specs.Store.{cells_for, width, start, slot, copied, in_case}
use Rattle.work_store.specs.inner.OpenStore.{Open, Apart, Slots}
use Rattle.work_store.proofs.ListParts.{part_length, part_at, part_ext, copy_below, copy_in, copy_above}

-- slot 0 starts after eleven cells
pub start_0 : (m n : ℕ) → start m n 0 ≡ 11
unfolding start
start_0 m n = omega (arith)

pub start_low : (m n k : ℕ) → 11 ≤ start m n k
unfolding start
start_low m n k = omega arith

-- a slot ends before each later one
pub slots_apart : (m n j k : ℕ) → j < k → start m n j + width m n ≤ start m n k
unfolding start
slots_apart m n j k h = omega (arith, suc-mul j (width m n), mul-le-mul_right (width m n) h)

-- the nine slots are within the store
-- two slots that differ
pub two_slots : (j k : ℕ) → j ≤ 8 → k ≤ 8 → (j ≡ k → ⊥) → Slots j k
two_slots j k a b d = record { from_slot = a; to_slot = b; differ = elim (dec_lt j k) [ yes h ↦ inl h | no h ↦ inr (elim (dec_lt k j) [ yes l ↦ l | no l ↦ absurd (d (omega arith)) ]) ] }

pub slot_room : (m n k l : ℕ) → k ≤ 8 → cells_for m n ≤ l → start m n k + width m n ≤ l
unfolding start cells_for width
slot_room m n k l h r = omega (arith, mul-le-mul_right (width m n) h)

module _ (m n : ℕ) (cells : List ℕ) (room : cells_for m n ≤ length cells) where
  -- ---- a store in slot 0

  pub store_slot : (q v : ℕ) → q < width m n → slot m n 0 (set cells (11 + q) v) ≡ set (slot m n 0 cells) q v
  unfolding slot
  store_slot q v h =
      ap (λ (a : ℕ). take (width m n) (drop a (set cells (11 + q) v))) (start_0 m n)
      ∙ ap (take (width m n)) (drop-set-add 11 cells q v)
      ∙ take-set-lt (width m n) (drop 11 cells) q v h
      ∙ ap (λ (a : ℕ). set (take (width m n) (drop a cells)) q v) (sym (start_0 m n))

  pub store_other : (q v k : ℕ) → q < width m n → 1 ≤ k → slot m n k (set cells (11 + q) v) ≡ slot m n k cells
  unfolding slot
  store_other q v k h one =
      ap (take (width m n)) (drop-set-lt (start m n k) cells (11 + q) v (omega (arith, start_0 m n, slots_apart m n 0 k one)))

  -- ---- slot `from` copied to slot `to`

  module _ (from to : ℕ) (hf : from ≤ 8) (ht : to ≤ 8) where
    long : width m n ≤ length (drop (start m n from) cells)
    long = omega (arith, length-drop (start m n from) cells, slot_room m n from (length cells) hf room)

    pub copied_length : length (copied m n from to cells) ≡ length cells
    unfolding copied
    copied_length = length-paste cells (start m n to) (drop (start m n from) cells) (width m n) (slot_room m n to (length cells) ht room) long

    pub copied_head : (i : ℕ) → i < 11 → get_or (copied m n from to cells) i 0 ≡ get_or cells i 0
    unfolding copied
    copied_head i h =
        copy_below cells (start m n to) (drop (start m n from) cells) (width m n) (slot_room m n to (length cells) ht room) long i
        (omega (arith, start_low m n to))

    pub copied_same : slot m n to (copied m n from to cells) ≡ slot m n from cells
    unfolding slot copied
    copied_same =
        part_ext (width m n) (start m n to) (start m n from) (copied m n from to cells) cells
        (omega (arith, copied_length, slot_room m n to (length cells) ht room)) (slot_room m n from (length cells) hf room)
        (λ i h. copy_in cells (start m n to) (drop (start m n from) cells) (width m n) (slot_room m n to (length cells) ht room) long i h
        ∙ get_or-drop (start m n from) cells i 0)

    pub copied_other : (k : ℕ) → k ≤ 8 → (k ≡ to → ⊥) → slot m n k (copied m n from to cells) ≡ slot m n k cells
    unfolding slot copied
    copied_other k hk d =
        part_ext (width m n) (start m n k) (start m n k) (copied m n from to cells) cells
        (omega (arith, copied_length, slot_room m n k (length cells) hk room)) (slot_room m n k (length cells) hk room)
        (λ i h. elim (dec_lt k to) [
          | yes l ↦ copy_below cells (start m n to) (drop (start m n from) cells) (width m n) (slot_room m n to (length cells) ht room) long (start m n k + i) (omega (arith, slots_apart m n k to l))
          | no g ↦ let l : to < k = omega arith in
              copy_above cells (start m n to) (drop (start m n from) cells) (width m n) (slot_room m n to (length cells) ht room) long (start m n k + i) (omega (arith, slots_apart m n to k l))
        ])

-- a store in the cells before the slots
pub store_head : (m n k i v : ℕ) (cells : List ℕ) → i < 11 → slot m n k (set cells i v) ≡ slot m n k cells
unfolding slot
store_head m n k i v cells h = ap (take (width m n)) (drop-set-lt (start m n k) cells i v (omega (arith, start_low m n k)))

-- ---- a part of a slot is a part of the store

module _ (m n : ℕ) (cells : List ℕ) (k : ℕ) (whole : start m n k + width m n ≤ length cells) where
  slot_part : (o l : ℕ) → o + l ≤ width m n → take l (drop o (slot m n k cells)) ≡ take l (drop (start m n k + o) cells)
  unfolding slot
  slot_part o l h =
      part_ext l o (start m n k + o) (take (width m n) (drop (start m n k) cells)) cells
      (omega (arith, part_length (width m n) (start m n k) cells whole)) (omega (arith, whole))
      (λ i g. part_at (width m n) (start m n k) cells (o + i) (omega arith) ∙ ap (λ (q : ℕ). get_or cells q 0) (let z : start m n k + (o + i) ≡ start m n k + o + i = omega arith in z))

  slot_cell : (o : ℕ) → o < width m n → get_or (slot m n k cells) o 0 ≡ get_or cells (start m n k + o) 0
  unfolding slot
  slot_cell o h = part_at (width m n) (start m n k) cells o h

-- of slot 0
module _ (m n : ℕ) (cells : List ℕ) (whole : start m n 0 + width m n ≤ length cells) where
  pub front_part : (o l : ℕ) → o + l ≤ width m n → take l (drop o (slot m n 0 cells)) ≡ take l (drop (in_case o) cells)
  front_part o l h =
      slot_part m n cells 0 whole o l h
      ∙ ap (λ (k : ℕ). take l (drop k cells)) (let z : start m n 0 + o ≡ in_case o = omega (arith, start_0 m n) in z)

  pub front_cell : (o : ℕ) → o < width m n → get_or (slot m n 0 cells) o 0 ≡ get_or cells (in_case o) 0
  front_cell o h =
      slot_cell m n cells 0 whole o h
      ∙ ap (λ (k : ℕ). get_or cells k 0) (let z : start m n 0 + o ≡ in_case o = omega (arith, start_0 m n) in z)

-- slot k is slot 0 of the cells from k slots on
pub slot_front : (m n k : ℕ) (cells : List ℕ) → slot m n 0 (drop (k * width m n) cells) ≡ slot m n k cells
unfolding slot start
slot_front m n k cells =
    ap (take (width m n)) (drop-drop (11 + 0 * width m n) (k * width m n) cells
    ∙ ap (λ (a : ℕ). drop a cells) (let z : k * width m n + (11 + 0 * width m n) ≡ 11 + k * width m n = omega arith in z))

module _ (m n : ℕ) (cells : List ℕ) (room : cells_for m n ≤ length cells) where
  pub case_part : (o l : ℕ) → o + l ≤ width m n → take l (drop o (slot m n 0 cells)) ≡ take l (drop (in_case o) cells)
  case_part = front_part m n cells (slot_room m n 0 (length cells) (omega arith) room)

  pub case_cell : (o : ℕ) → o < width m n → get_or (slot m n 0 cells) o 0 ≡ get_or cells (in_case o) 0
  case_cell = front_cell m n cells (slot_room m n 0 (length cells) (omega arith) room)

  pub slot_length : (k : ℕ) → k ≤ 8 → length (slot m n k cells) ≡ width m n
  unfolding slot
  slot_length k h = part_length (width m n) (start m n k) cells (slot_room m n k (length cells) h room)

-- ---- numbers that fit

pub width_small : (m n : ℕ) → m ≤ 32 → n ≤ 64 → width m n ≤ 8195
unfolding width
width_small m n a b = omega (arith, mul-le-mul a b)

pub starts_small : (k w : ℕ) → k ≤ 8 → w ≤ 8195 → k * w ≤ 65560
starts_small k w a b = mul-le-mul a b

-- ---- what the copying function asks and gives

module _ (m n from to : ℕ) (cells : List ℕ) (a b w : ℕ) (ea : a ≡ start m n from) (eb : b ≡ start m n to) (ew : w ≡ width m n) where
  pub slots_pair : Open m n cells → Slots from to → Apart a b w cells
  slots_pair o s = record {
    from_room = omega (arith, slot_room m n from (length cells) s.from_slot o.room);
    to_room = omega (arith, slot_room m n to (length cells) s.to_slot o.room);
    apart =
        ⊎_elim (λ l. let z : a + w ≤ b = omega (arith, slots_apart m n from to l) in inl z)
        (λ l. let z : b + w ≤ a = omega (arith, slots_apart m n to from l) in inr z) s.differ;
  }

  pub slot_copied : (after : List ℕ) → after ≡ paste cells b (drop a cells) w → after ≡ copied m n from to cells
  unfolding copied
  slot_copied after e = e ∙ rw (ea, eb, ew) refl
