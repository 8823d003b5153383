-- The store's layout: eleven cells before all slots, then nine slots, slot 0 of the working case and slot k of mark k. Assumes nothing.
--   cell 0: m; cell 1: n; cell 1 + k: whether mark k is set; cell 10: the signature
--   a slot: 2 least runs, m supplies, n demands, m × n unit costs, m × n ceilings, then the table, for which there are 4,001 cells
use Rattle.std.specs.Prelude.{Bool, cond, ◌&&◌, List, [], ◌∷◌, ◌++◌, map, ℕ, ◌+◌, ◌-◌, ◌*◌, min, eqb, leb, ℤ, length, get_or, set, take, drop, replicate}
use Rattle.std.proofs.Math.Option.{Option, none, some}
use Rattle.std.proofs.Math.IntN.{sub_ℕ}
use Rattle.std.proofs.Math.Seq.{paste}
use Rattle.problem.specs.Range.{raised_of}
use Rattle.work_store.specs.State.{Draft, State}
use Rattle.work_store.specs.Calls.{Call, edit_demand, edit_supply, edit_cost, edit_entry, set_mark, go_back, absent}

-- how many cells a store must have (W-204, and W-207 for the ceilings)
unfoldable pub cells_for : ℕ → ℕ → ℕ
cells_for m n = 9 * (m * n + m + n + 4020) + 9 * (m * n)

-- a size within the limits
unfoldable pub in_limits : ℕ → ℕ → Bool
in_limits m n = leb 2 m && leb m 32 && leb 1 n && leb n 64

-- how many cells to lend for a case of a size; 0 for a size that no case has
unfoldable pub cells_to_lend : ℕ → ℕ → ℕ
cells_to_lend m n = cond (in_limits m n) (cells_for m n) 0

-- ---- where the parts of a store begin

-- the flag of mark k
abbrev pub flag_at : ℕ → ℕ
flag_at k = 1 + k

-- the signature of a working case
abbrev pub signed_at : ℕ
signed_at = 10

-- the magic number, the letters YADV as four bytes, and after it, in the lower 32 bits, the layout's version
abbrev pub signature : ℕ
signature = 1497449558 * 4294967296 + 2

-- the slots
abbrev pub slots_at : ℕ
slots_at = 11

-- ---- where the parts of a slot begin, after the two least runs

abbrev pub supplies_at : ℕ
supplies_at = 2

abbrev pub demands_at : ℕ → ℕ
demands_at m = 2 + m

abbrev pub costs_at : ℕ → ℕ → ℕ
costs_at m n = 2 + m + n

abbrev pub ceilings_at : ℕ → ℕ → ℕ
ceilings_at m n = 2 + m + n + m * n

abbrev pub table_at : ℕ → ℕ → ℕ
table_at m n = 2 + m + n + m * n + m * n

-- how many cells a slot has
unfoldable pub width : ℕ → ℕ → ℕ
width m n = table_at m n + 4001

-- where slot k starts
unfoldable pub start : ℕ → ℕ → ℕ → ℕ
start m n k = slots_at + k * width m n

unfoldable pub slot : ℕ → ℕ → ℕ → List ℕ → List ℕ
slot m n k cells = take (width m n) (drop (start m n k) cells)

-- ---- the state that the cells hold

-- the unit cost of a cell, which holds it and 1,000,000; a cell above 2,000,000 is no cost in range
unfoldable pub cost_in : ℕ → ℤ
cost_in v = sub_ℕ (min v 2000001) 1000000

-- the entries that there are, by a_1: never more than there are cells for
unfoldable pub entries_for : ℕ → ℕ
entries_for a = min a 4000 + 1

-- the case in a slot
unfoldable pub draft_in : ℕ → ℕ → List ℕ → Draft
draft_in m n s = record {
  m = m;
  n = n;
  run1 = get_or s 0 0;
  run2 = get_or s 1 0;
  supplies = take m (drop supplies_at s);
  demands = take n (drop (demands_at m) s);
  costs = map cost_in (take (m * n) (drop (costs_at m n) s));
  ceilings = take (m * n) (drop (ceilings_at m n) s);
  table = take (entries_for (get_or s supplies_at 0)) (drop (table_at m n) s);
}

unfoldable pub mark_in : ℕ → ℕ → List ℕ → ℕ → Option Draft
mark_in m n cells k = cond (absent k 8) none (cond (eqb (get_or cells (flag_at k) 0) 0) none (some (draft_in m n (slot m n k cells))))

unfoldable pub state_at : ℕ → ℕ → List ℕ → State
state_at m n cells = record { case = draft_in m n (slot m n 0 cells); marks = mark_in m n cells }

abbrev pub sources : List ℕ → ℕ
sources cells = get_or cells 0 0

abbrev pub terminals : List ℕ → ℕ
terminals cells = get_or cells 1 0

-- the cells are signed
unfoldable pub signed : List ℕ → Bool
signed cells = eqb (get_or cells signed_at 0) signature

-- the cells are those of some working case: a size within the limits, room for it, and the signature
unfoldable pub opens : List ℕ → Bool
opens cells =
    in_limits (sources cells) (terminals cells) && leb (cells_for (sources cells) (terminals cells)) (length cells) && signed cells

-- the state that the cells hold, if any
unfoldable pub held_in : List ℕ → Option State
held_in cells = cond (opens cells) (some (state_at (sources cells) (terminals cells) cells)) none

-- ---- what a call writes

-- slot `from` copied to slot `to`
unfoldable pub copied : ℕ → ℕ → ℕ → ℕ → List ℕ → List ℕ
copied m n from to cells = paste cells (start m n to) (drop (start m n from) cells) (width m n)

-- so many cells made 0, from an index on
unfoldable pub zeroed : List ℕ → ℕ → ℕ → List ℕ
zeroed cells from count = paste cells from (replicate count 0) count

-- a cell of the working case by its index in the slot
abbrev pub in_case : ℕ → ℕ
in_case o = slots_at + o

-- the entries that the working case has
unfoldable pub entries_in : List ℕ → ℕ
entries_in cells = entries_for (get_or cells (in_case supplies_at) 0)

-- zeros past the table, so that it may have as many entries
unfoldable pub extended : ℕ → ℕ → ℕ → List ℕ → List ℕ
extended m n count cells = zeroed cells (in_case (table_at m n + entries_in cells)) (count - entries_in cells)

-- the cells that a call writes, at a size
unfoldable pub writes : ℕ → ℕ → Call → List ℕ → List ℕ
writes m n (edit_demand j v) cells = set cells (in_case (demands_at m + (j - 1))) v
writes m n (edit_supply i v) cells = set (cond (eqb i 1) (extended m n (v + 1) cells) cells) (in_case (supplies_at + (i - 1))) v
writes m n (edit_cost i j v) cells = set cells (in_case (costs_at m n + ((i - 1) * n + (j - 1)))) (raised_of v)
writes m n (edit_entry y v) cells = set cells (in_case (table_at m n + y)) v
writes m n (set_mark k) cells = set (copied m n 0 k cells) (flag_at k) 1
writes m n (go_back k) cells = copied m n k 0 cells

-- ---- entering

-- the cells before the slots, with no mark set, and the two least runs
abbrev pub header : Draft → List ℕ
header d = d.m ∷ d.n ∷ 0 ∷ 0 ∷ 0 ∷ 0 ∷ 0 ∷ 0 ∷ 0 ∷ 0 ∷ signature ∷ d.run1 ∷ d.run2 ∷ []

-- the cells that entering writes, from the first on
unfoldable pub cells_of : Draft → List ℕ
cells_of d = header d ++ d.supplies ++ d.demands ++ map raised_of d.costs ++ d.ceilings ++ d.table
