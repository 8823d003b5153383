-- Edits do to the cells what they do to the state. Assumes nothing.
use mathlib.Core.Path.{◌≡◌, refl, sym, ap, ap₂, ◌∙◌, subst}
use mathlib.Core.Bool.{Bool, true, cond, not, ◌||◌}
use mathlib.Core.Option.{some}
use mathlib.Core.List.{List}
use Prim.Native.Nat.{ℕ, suc, ◌+◌, ◌-◌, ◌*◌, ◌≤◌, ◌<◌}
use native.Mathlib.Nat.{suc-mul, mul-le-mul, mul-le-mul_right}
use native.Mathlib.Decide.{ℕ_discrete}
use native.Mathlib.Omega.{arith}
use lib.Dec.{ltb}
use lib.IntN.{ℤ}
use lib.ListN.{length, get_or, set, length-set}
use lib.Seq.{get_or-set_other}
use borrow.Author.Tests.{ltb-true, ltb-false, eq-eqb, ne_eqb, not-false}
use Rattle.problem.specs.Range.{outside, raised_of}
use Rattle.problem.specs.Outcome.{refuse_if, ◌or_else◌}
use Rattle.problem.proofs.TestsPassed.{first_passes, second_passes, refuse_if_none, either_first, either_second}
use Rattle.work_store.specs.State.{Draft}
use Rattle.work_store.specs.Calls.{edit_demand, edit_supply, edit_cost, edit_entry, refuse_when, absent, least_run, refusal_in, acted, with_case, with_entry}
use Rattle.work_store.specs.Store.{supplies_at, demands_at, costs_at, table_at, in_case, width, slot, draft_in, state_at, sources, terminals, signed_at}
use Rattle.work_store.specs.Store.{opens, held_in, entries_for, entries_in, zeroed, extended, writes}
use Rattle.work_store.specs.inner.OpenStore.{Open}
use Rattle.work_store.proofs.StoreInSlot.{demand_draft, supply_draft, cost_draft, entry_draft}
use Rattle.work_store.proofs.StateAfterWrites.{inside, held_eq, is_open, edit_state}
use Rattle.work_store.proofs.CaseCells.{few_entries, first_cell, entries_long}
use Rattle.work_store.proofs.ZerosPastTable.{ext_length, ext_low, first_state}
use Rattle.work_store.proofs.CallPromise.{Faithful, when_none}

-- lane (i, j), both from 1, is one of m × n
pub lane_in : (m n i j : ℕ) → 1 ≤ i → i ≤ m → 1 ≤ j → j ≤ n → (i - 1) * n + (j - 1) < m * n
lane_in m n i j a b c d =
    let e : suc (i - 1) * n ≡ (i - 1) * n + n = suc-mul (i - 1) n in
    let f : suc (i - 1) * n ≤ m * n = mul-le-mul_right n (omega arith) in
    omega arith

pub row_few : (m n : ℕ) (cells : List ℕ) → Open m n cells → (i : ℕ) → i ≤ m → (i - 1) * n ≤ 2048
row_few m n cells o i h = let a : i - 1 ≤ 32 = omega (arith, o.few) in mul-le-mul a o.many

-- a store to a cell of the working case
edit_held : (cells : List ℕ) → opens cells ≡ true → (q v : ℕ) (d : Draft) → q < width (sources cells) (terminals cells)
    → draft_in (sources cells) (terminals cells) (set (slot (sources cells) (terminals cells) 0 cells) q v) ≡ d
    → held_in (set cells (in_case q) v) ≡ some (with_case d (state_at (sources cells) (terminals cells) cells))
edit_held cells o q v d h e =
    held_eq cells (set cells (in_case q) v) _ o (length-set cells (in_case q) v) (get_or-set_other cells (in_case q) 0 v 0 (λ z. omega arith))
    (get_or-set_other cells (in_case q) 1 v 0 (λ z. omega arith)) (get_or-set_other cells (in_case q) signed_at v 0 (λ z. omega arith))
    (edit_state (sources cells) (terminals cells) cells (is_open cells o) q v d h e)

pub demand_faithful : (j v : ℕ) → Faithful (edit_demand j v)
unfolding refusal_in writes acted state_at draft_in width
demand_faithful j v cells o e =
    let m = sources cells in
    let n = terminals cells in
    let p = is_open cells o in
    let i = inside j n (refuse_if_none 24 (absent j n) (first_passes (refuse_if 24 (absent j n)) (refuse_when 4 (m + j) (ltb 4000 v)) e)) in
    edit_held cells o (demands_at m + (j - 1)) v _ (omega (arith, i.0, i.1))
    (demand_draft m n (slot m n 0 cells) j v (omega (arith, p.two)) i.0 i.1)

pub cost_faithful : (i j : ℕ) (v : ℤ) → Faithful (edit_cost i j v)
unfolding refusal_in writes acted state_at draft_in width
cost_faithful i j v cells o e =
    let m = sources cells in
    let n = terminals cells in
    let p = is_open cells o in
    let first = refuse_if 24 (absent i m || absent j n) in
    let then = refuse_when 5 ((i - 1) * n + j) (outside v) in
    let t = refuse_if_none 24 (absent i m || absent j n) (first_passes first then e) in
    let a = inside i m (either_first (absent i m) (absent j n) t) in
    let b = inside j n (either_second (absent i m) (absent j n) t) in
    let h = lane_in m n i j a.0 a.1 b.0 b.1 in
    edit_held cells o (costs_at m n + ((i - 1) * n + (j - 1))) (raised_of v) _ (omega arith)
    (cost_draft m n (slot m n 0 cells) i j v (omega (arith, p.two)) h (when_none 5 ((i - 1) * n + j) (outside v) (second_passes first then e)))

entry_held : (y v : ℕ) (cells : List ℕ) → opens cells ≡ true → Open (sources cells) (terminals cells) cells → y < entries_in cells
    → held_in (set cells (in_case (table_at (sources cells) (terminals cells) + y)) v)
    ≡ some (with_case (with_entry y v (state_at (sources cells) (terminals cells) cells).case) (state_at (sources cells) (terminals cells) cells))
unfolding state_at width entries_in
entry_held y v cells o p h =
    let m = sources cells in
    let n = terminals cells in
    let f : entries_for (get_or (slot m n 0 cells) supplies_at 0) ≡ entries_in cells = ap entries_for (first_cell m n cells p) in
    edit_held cells o (table_at m n + y) v _ (omega (arith, few_entries cells))
    (entry_draft m n (slot m n 0 cells) y v (omega (arith, p.two)) (omega arith))

pub entry_faithful : (y v : ℕ) → Faithful (edit_entry y v)
unfolding refusal_in writes acted
entry_faithful y v cells o e =
    let m = sources cells in
    let n = terminals cells in
    let p = is_open cells o in
    let l = length (state_at m n cells).case.table in
    let h = ltb-true y l (not-false (ltb y l) (refuse_if_none 24 (not (ltb y l)) e)) in
    entry_held y v cells o p (omega (arith, h, entries_long m n cells p))

first_faithful : (v : ℕ) (cells : List ℕ) → opens cells ≡ true → v ≤ 4000
    → held_in (writes (sources cells) (terminals cells) (edit_supply 1 v) cells) ≡ some (acted (edit_supply 1 v) (state_at (sources cells) (terminals cells) cells))
unfolding writes
first_faithful v cells o small =
    let m = sources cells in
    let n = terminals cells in
    let p = is_open cells o in
    let E = extended m n (v + 1) cells in
    let few : v + 1 ≤ 4001 = omega arith in
    held_eq cells (set E (in_case supplies_at) v) _ o (length-set E (in_case supplies_at) v ∙ ext_length m n cells p (v + 1) few)
    (get_or-set_other E (in_case supplies_at) 0 v 0 (λ z. omega arith) ∙ ext_low m n cells p (v + 1) few 0 (omega arith))
    (get_or-set_other E (in_case supplies_at) 1 v 0 (λ z. omega arith) ∙ ext_low m n cells p (v + 1) few 1 (omega arith))
    (get_or-set_other E (in_case supplies_at) signed_at v 0 (λ z. omega arith) ∙ ext_low m n cells p (v + 1) few signed_at (omega arith))
    (first_state m n cells p v small)

other_faithful : (i v : ℕ) (cells : List ℕ) → opens cells ≡ true → 2 ≤ i → i ≤ sources cells
    → held_in (writes (sources cells) (terminals cells) (edit_supply i v) cells) ≡ some (acted (edit_supply i v) (state_at (sources cells) (terminals cells) cells))
unfolding writes acted state_at width
other_faithful i v cells o a b =
    let m = sources cells in
    let n = terminals cells in
    ap (λ (t : Bool). held_in (set (cond t (extended m n (v + 1) cells) cells) (in_case (supplies_at + (i - 1))) v)) (ne_eqb i 1 (λ z. omega arith))
    ∙ edit_held cells o (supplies_at + (i - 1)) v _ (omega arith) (supply_draft m n (slot m n 0 cells) i v a b)

size_of : (m n : ℕ) (cells : List ℕ) → (state_at m n cells).case.m ≡ m
unfolding state_at draft_in
size_of m n cells = refl

pub supply_faithful : (i v : ℕ) → Faithful (edit_supply i v)
unfolding refusal_in
supply_faithful i v cells o e =
    let m = sources cells in
    let n = terminals cells in
    let s = state_at m n cells in
    let rest = refuse_when 4 i (ltb 4000 v) or_else refuse_when 23 i (ltb v (least_run s.case i)) in
    let a = inside i s.case.m (refuse_if_none 24 (absent i s.case.m) (first_passes (refuse_if 24 (absent i s.case.m)) rest e)) in
    let small = ltb-false 4000 v (when_none 4 i (ltb 4000 v) (first_passes (refuse_when 4 i (ltb 4000 v)) _ (second_passes (refuse_if 24 (absent i s.case.m)) rest e))) in
    elim (ℕ_discrete i 1) [
      | yes q ↦
          subst (λ (k : ℕ). held_in (writes m n (edit_supply k v) cells) ≡ some (acted (edit_supply k v) (state_at m n cells))) (sym q)
          (first_faithful v cells o small)
      | no d ↦ other_faithful i v cells o (omega (arith, a.0)) (omega (arith, a.1, size_of m n cells))
    ]

-- ---- what the functions that edit leave

-- the function that alters a_1
pub first_set : (m n v : ℕ) (d l : List ℕ) (a o x : ℕ) → l ≡ zeroed d (a + o) x → a ≡ in_case (table_at m n) → o ≡ entries_in d → x ≡ v + 1 - o
    → set l (in_case supplies_at) v ≡ set (extended m n (v + 1) d) (in_case supplies_at) v
unfolding extended
first_set m n v d l a o x e ea eo ex =
    ap (λ (k : List ℕ). set k (in_case supplies_at) v)
    (e ∙ ap₂ (λ (i j : ℕ). zeroed d i j) (let z : a + o ≡ in_case (table_at m n + entries_in d) = omega arith in z) (ex ∙ ap (λ (k : ℕ). v + 1 - k) eo))

module _ (m n : ℕ) (cells : List ℕ) (i v : ℕ) where
  pub first_writes : i ≡ 1 → (l : List ℕ) → l ≡ set (extended m n (v + 1) cells) (in_case supplies_at) v → l ≡ writes m n (edit_supply i v) cells
  unfolding writes
  first_writes e l h =
      h ∙ ap₂ (λ (t : Bool) (p : ℕ). set (cond t (extended m n (v + 1) cells) cells) p v) (sym (eq-eqb i 1 e))
      (let z : in_case supplies_at ≡ in_case (supplies_at + (i - 1)) = omega arith in z)

  pub other_writes : (i ≡ 1 → ⊥) → set cells (in_case supplies_at + (i - 1)) v ≡ writes m n (edit_supply i v) cells
  unfolding writes
  other_writes d =
      ap₂ (λ (t : Bool) (p : ℕ). set (cond t (extended m n (v + 1) cells) cells) p v) (sym (ne_eqb i 1 d))
      (let z : in_case supplies_at + (i - 1) ≡ in_case (supplies_at + (i - 1)) = omega arith in z)

-- one store, at a place that the layout names
pub placed : (cells : List ℕ) (a b o v : ℕ) → a ≡ in_case o → set cells (a + b) v ≡ set cells (in_case (o + b)) v
placed cells a b o v e = ap (λ (k : ℕ). set cells k v) (let z : a + b ≡ in_case (o + b) = omega arith in z)
