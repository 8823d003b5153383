-- One store in a slot: what it does to the case there. Assumes nothing.
use mathlib.Core.Path.{◌≡◌, sym, ap, ap₂, ◌∙◌}
use mathlib.Core.Bool.{Bool, false, cond}
use mathlib.Core.List.{List, ◌++◌, map}
use Prim.Native.Nat.{ℕ, min, ◌+◌, ◌-◌, ◌*◌, ◌≤◌, ◌<◌}
use native.Mathlib.Decide.{dec_lt}
use native.Mathlib.Omega.{arith}
use lib.IntN.{ℤ}
use lib.ListN.{length, get_or, set, take, drop, replicate, length-append, length-replicate, get_or-replicate, get_or-append}
use lib.Seq.{length-take-le, get_or-set_same, get_or-set_other, get_or-take, get_or-append-add, drop-set-lt, ext_get_or}
use borrow.Author.Tests.{ne_eqb}
use Rattle.problem.specs.Range.{outside, raised_of}
use Rattle.work_store.specs.State.{Draft}
use Rattle.work_store.specs.Calls.{with_demand, with_supply, with_cost, with_entry, resized}
use Rattle.work_store.specs.Store.{supplies_at, demands_at, costs_at, ceilings_at, table_at, cost_in, entries_for, draft_in}
use Rattle.work_store.proofs.ListParts.{part_length, part_at, store_before, store_after, store_within}
use Rattle.work_store.proofs.CostLaws.{cost_back, map_set}

-- two drafts of a size are equal where their parts are
pub draft_eq : (m n : ℕ) {r r' q q' : ℕ} {s s' d d' u u' t t' : List ℕ} {c c' : List ℤ} → r ≡ r' → q ≡ q' → s ≡ s' → d ≡ d' → c ≡ c' → u ≡ u' → t ≡ t'
    → ◌≡◌ {A = Draft} (record { m = m; n = n; run1 = r; run2 = q; supplies = s; demands = d; costs = c; ceilings = u; table = t })
    (record { m = m; n = n; run1 = r'; run2 = q'; supplies = s'; demands = d'; costs = c'; ceilings = u'; table = t' })
draft_eq m n er eq es ed ec eu et = λ i. record {
  m = m;
  n = n;
  run1 = er i;
  run2 = eq i;
  supplies = es i;
  demands = ed i;
  costs = ec i;
  ceilings = eu i;
  table = et i;
}

-- a run, where a later cell is stored to
runs_kept : (s : List ℕ) (q v k : ℕ) → 2 ≤ q → k < 2 → get_or (set s q v) k 0 ≡ get_or s k 0
runs_kept s q v k a b = get_or-set_other s q k v 0 (λ z. omega arith)

-- the table where neither a_1 nor a cell of it is stored to
table_eq : (o : ℕ) (s : List ℕ) (q v : ℕ) → (2 ≡ q → ⊥) → q < o
    → take (entries_for (get_or (set s q v) 2 0)) (drop o (set s q v)) ≡ take (entries_for (get_or s 2 0)) (drop o s)
table_eq o s q v d h =
    ap₂ (λ (a : ℕ) (l : List ℕ). take (entries_for a) l) (get_or-set_other s q 2 v 0 d) (drop-set-lt o s q v h)

module _ (m n : ℕ) (s : List ℕ) where
  pub demand_draft : (j v : ℕ) → 1 ≤ m → 1 ≤ j → j ≤ n → draft_in m n (set s (demands_at m + (j - 1)) v) ≡ with_demand j v (draft_in m n s)
  unfolding draft_in
  demand_draft j v one a b =
      let q = demands_at m + (j - 1) in
      draft_eq m n (runs_kept s q v 0 (omega arith) (omega arith)) (runs_kept s q v 1 (omega arith) (omega arith)) (store_after m supplies_at s q v (omega arith))
      (store_within n (demands_at m) s (j - 1) v (omega arith)) (ap (map cost_in) (store_before (m * n) (costs_at m n) s q v (omega arith)))
      (store_before (m * n) (ceilings_at m n) s q v (omega arith)) (table_eq (table_at m n) s q v (λ z. omega arith) (omega arith))

  pub cost_draft : (i j : ℕ) (v : ℤ) → 1 ≤ m → (i - 1) * n + (j - 1) < m * n → outside v ≡ false
      → draft_in m n (set s (costs_at m n + ((i - 1) * n + (j - 1))) (raised_of v)) ≡ with_cost i j v (draft_in m n s)
  unfolding draft_in
  cost_draft i j v one h e =
      let lane = (i - 1) * n + (j - 1) in
      let q = costs_at m n + lane in
      let w = raised_of v in
      draft_eq m n (runs_kept s q w 0 (omega arith) (omega arith)) (runs_kept s q w 1 (omega arith) (omega arith)) (store_after m supplies_at s q w (omega arith))
      (store_after n (demands_at m) s q w (omega arith))
      (ap (map cost_in) (store_within (m * n) (costs_at m n) s lane w h) ∙ map_set cost_in (take (m * n) (drop (costs_at m n) s)) lane w
      ∙ ap (λ (x : ℤ). set (map cost_in (take (m * n) (drop (costs_at m n) s))) lane x) (cost_back v e))
      (store_before (m * n) (ceilings_at m n) s q w (omega arith)) (table_eq (table_at m n) s q w (λ z. omega arith) (omega arith))

  pub entry_draft : (y v : ℕ) → 1 ≤ m → y < entries_for (get_or s 2 0) → draft_in m n (set s (table_at m n + y) v) ≡ with_entry y v (draft_in m n s)
  unfolding draft_in
  entry_draft y v one h =
      let q = table_at m n + y in
      draft_eq m n (runs_kept s q v 0 (omega arith) (omega arith)) (runs_kept s q v 1 (omega arith) (omega arith)) (store_after m supplies_at s q v (omega arith))
      (store_after n (demands_at m) s q v (omega arith)) (ap (map cost_in) (store_after (m * n) (costs_at m n) s q v (omega arith)))
      (store_after (m * n) (ceilings_at m n) s q v (omega arith))
      (ap (λ (a : ℕ). take (entries_for a) (drop (table_at m n) (set s q v))) (get_or-set_other s q 2 v 0 (λ z. omega arith))
      ∙ store_within (entries_for (get_or s 2 0)) (table_at m n) s y v h)

  -- a supply but a_1
  pub supply_draft : (i v : ℕ) → 2 ≤ i → i ≤ m → draft_in m n (set s (supplies_at + (i - 1)) v) ≡ with_supply i v (draft_in m n s)
  unfolding draft_in
  supply_draft i v a b =
      let q = supplies_at + (i - 1) in
      let t = take (entries_for (get_or s 2 0)) (drop (table_at m n) s) in
      draft_eq m n (runs_kept s q v 0 (omega arith) (omega arith)) (runs_kept s q v 1 (omega arith) (omega arith)) (store_within m supplies_at s (i - 1) v (omega arith))
      (store_before n (demands_at m) s q v (omega arith)) (ap (map cost_in) (store_before (m * n) (costs_at m n) s q v (omega arith)))
      (store_before (m * n) (ceilings_at m n) s q v (omega arith))
      (table_eq (table_at m n) s q v (λ z. omega arith) (omega arith) ∙ sym (ap (λ (b : Bool). cond b (resized (v + 1) t) t) (ne_eqb i 1 (λ z. omega arith))))

  -- a_1, where the cells past the table, as far as it is to reach, are 0
  pub first_draft : (v : ℕ) → 1 ≤ m → v ≤ 4000 → table_at m n + 4001 ≤ length s
      → ((y : ℕ) → entries_for (get_or s 2 0) ≤ y → y < v + 1 → get_or s (table_at m n + y) 0 ≡ 0)
      → draft_in m n (set s supplies_at v) ≡ with_supply 1 v (draft_in m n s)
  unfolding draft_in resized entries_for
  first_draft v one small room zeros =
      draft_eq m n (runs_kept s 2 v 0 (omega arith) (omega arith)) (runs_kept s 2 v 1 (omega arith) (omega arith)) (store_within m supplies_at s 0 v one)
      (store_before n (demands_at m) s 2 v (omega arith)) (ap (map cost_in) (store_before (m * n) (costs_at m n) s 2 v (omega arith)))
      (store_before (m * n) (ceilings_at m n) s 2 v (omega arith))
      (ap₂ (λ (a : ℕ) (l : List ℕ). take (min a 4000 + 1) l) (get_or-set_same s 2 v 0 (omega arith)) (drop-set-lt (table_at m n) s 2 v (omega arith))
      ∙ ap (λ (k : ℕ). take k (drop (table_at m n) s)) (let z : min v 4000 + 1 ≡ v + 1 = omega arith in z)
      ∙ grown (table_at m n) (min (get_or s 2 0) 4000 + 1) (omega arith) (omega arith) zeros)
    where
      grown : (o old : ℕ) → o + old ≤ length s → o + (v + 1) ≤ length s → ((y : ℕ) → old ≤ y → y < v + 1 → get_or s (o + y) 0 ≡ 0)
          → take (v + 1) (drop o s) ≡ take (v + 1) (take old (drop o s) ++ replicate (v + 1) 0)
      grown o old ha hb z =
          let la : length (take old (drop o s)) ≡ old = part_length old o s ha in
          let lb : length (take (v + 1) (drop o s)) ≡ v + 1 = part_length (v + 1) o s hb in
          let lr : length (replicate (v + 1) (let x : ℕ = 0 in x)) ≡ v + 1 = length-replicate (v + 1) 0 in
          let lc : length (take old (drop o s) ++ replicate (v + 1) 0) ≡ old + (v + 1) = omega (arith, length-append (take old (drop o s)) (replicate (v + 1) 0)) in
          ext_get_or 0 (take (v + 1) (drop o s)) (take (v + 1) (take old (drop o s) ++ replicate (v + 1) 0))
          (lb ∙ sym (length-take-le (v + 1) (take old (drop o s) ++ replicate (v + 1) 0) (omega arith)))
          (λ y h.
          let u : y < v + 1 = omega arith in
          part_at (v + 1) o s y u
          ∙ elim (dec_lt y old) [
            | yes l ↦ sym (get_or-take (v + 1) (take old (drop o s) ++ replicate (v + 1) 0) y 0 u ∙ get_or-append (take old (drop o s)) (replicate (v + 1) 0) 0 y (omega arith) ∙ part_at old o s y l)
            | no l ↦
                z y (omega arith) u
                ∙ sym (get_or-take (v + 1) (take old (drop o s) ++ replicate (v + 1) 0) y 0 u
                ∙ ap (λ (k : ℕ). get_or (take old (drop o s) ++ replicate (v + 1) 0) k 0) (let e : y ≡ length (take old (drop o s)) + (y - old) = omega arith in e)
                ∙ get_or-append-add (take old (drop o s)) (replicate (v + 1) 0) (y - old) 0 ∙ get_or-replicate (v + 1) (y - old) 0 0 (omega arith))
          ])
