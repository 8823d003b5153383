-- The refusals of an edit, as the inner functions come to them. Assumes nothing.
use mathlib.Core.Path.{◌≡◌, ap, ◌∙◌}
use mathlib.Core.Bool.{Bool, true, false, not, ◌||◌}
use mathlib.Core.Option.{Option, none, some}
use mathlib.Core.List.{List}
use Prim.Native.Nat.{ℕ, ◌+◌, ◌-◌, ◌*◌, ◌≤◌, ◌<◌}
use native.Mathlib.Omega.{arith}
use lib.Dec.{ltb}
use lib.IntN.{ℤ}
use lib.ListN.{length}
use borrow.Author.Tests.{lt-ltb, le-ltb}
use Rattle.problem.specs.Range.{outside}
use Rattle.problem.specs.Outcome.{Outcome, refused, refuse_if, ◌or_else◌}
use Rattle.work_store.specs.State.{Draft}
use Rattle.work_store.specs.Calls.{edit_demand, edit_supply, edit_cost, edit_entry, refuse_when, absent, least_run, refusal_in}
use Rattle.work_store.specs.Store.{state_at, draft_in, entries_in}
use Rattle.work_store.specs.inner.OpenStore.{Open, run_in}
use Rattle.work_store.proofs.CallRefusals.{or_true, first_24, past_24, when, not_when}
use Rattle.work_store.proofs.CaseCells.{case_cells, entries_long}

-- a refusal after 24 and 4
module _ (t u w : Bool) (i : ℕ) where
  past_4 : t ≡ false → u ≡ false → (refuse_if 24 t or_else refuse_when 4 i u or_else refuse_when 23 i w) ≡ refuse_when 23 i w
  unfolding ◌or_else◌
  past_4 a b = past_24 t (refuse_when 4 i u or_else refuse_when 23 i w) a ∙ ap (λ (o : Option Outcome). o or_else refuse_when 23 i w) (not_when 4 i u b)

  at_4 : t ≡ false → u ≡ true → (refuse_if 24 t or_else refuse_when 4 i u or_else refuse_when 23 i w) ≡ some (refused 4 i)
  unfolding ◌or_else◌
  at_4 a b = past_24 t (refuse_when 4 i u or_else refuse_when 23 i w) a ∙ ap (λ (o : Option Outcome). o or_else refuse_when 23 i w) (when 4 i u b)

module _ (m n : ℕ) (cells : List ℕ) (op : Open m n cells) (i v : ℕ) where
  run_eq : least_run (state_at m n cells).case i ≡ run_in cells i
  unfolding least_run run_in
  run_eq = ap (λ (d : Draft). least_run d i) (case_cells m n cells op)

  sized : absent i m ≡ false → absent i (state_at m n cells).case.m ≡ false
  sized e = ap (λ (d : Draft). absent i d.m) (case_cells m n cells op) ∙ e

  pub supply_24 : absent i m ≡ true → refusal_in (edit_supply i v) (state_at m n cells) ≡ some (refused 24 0)
  unfolding refusal_in state_at draft_in
  supply_24 e = first_24 (absent i m) _ e

  pub supply_4 : absent i m ≡ false → 4000 < v → refusal_in (edit_supply i v) (state_at m n cells) ≡ some (refused 4 i)
  unfolding refusal_in state_at draft_in
  supply_4 e h = at_4 (absent i m) (ltb 4000 v) _ i e (lt-ltb 4000 v h)

  pub supply_23 : absent i m ≡ false → v ≤ 4000 → (r : ℕ) → r ≡ run_in cells i → v < r → refusal_in (edit_supply i v) (state_at m n cells) ≡ some (refused 23 i)
  unfolding refusal_in
  supply_23 e h r q g =
      let l = least_run (state_at m n cells).case i in
      past_4 (absent i (state_at m n cells).case.m) (ltb 4000 v) (ltb v l) i (sized e) (le-ltb 4000 v h) ∙ when 23 i (ltb v l) (lt-ltb v l (omega (arith, run_eq)))

  pub supply_none : absent i m ≡ false → v ≤ 4000 → (r : ℕ) → r ≡ run_in cells i → r ≤ v → refusal_in (edit_supply i v) (state_at m n cells) ≡ none
  unfolding refusal_in
  supply_none e h r q g =
      let l = least_run (state_at m n cells).case i in
      past_4 (absent i (state_at m n cells).case.m) (ltb 4000 v) (ltb v l) i (sized e) (le-ltb 4000 v h) ∙ not_when 23 i (ltb v l) (le-ltb v l (omega (arith, run_eq)))

module _ (m n : ℕ) (cells : List ℕ) (j v : ℕ) where
  pub demand_24 : absent j n ≡ true → refusal_in (edit_demand j v) (state_at m n cells) ≡ some (refused 24 0)
  unfolding refusal_in state_at draft_in
  demand_24 e = first_24 (absent j n) (refuse_when 4 (m + j) (ltb 4000 v)) e

  pub demand_4 : absent j n ≡ false → 4000 < v → refusal_in (edit_demand j v) (state_at m n cells) ≡ some (refused 4 (m + j))
  unfolding refusal_in state_at draft_in
  demand_4 e h = past_24 (absent j n) (refuse_when 4 (m + j) (ltb 4000 v)) e ∙ when 4 (m + j) (ltb 4000 v) (lt-ltb 4000 v h)

  pub demand_none : absent j n ≡ false → v ≤ 4000 → refusal_in (edit_demand j v) (state_at m n cells) ≡ none
  unfolding refusal_in state_at draft_in
  demand_none e h = past_24 (absent j n) (refuse_when 4 (m + j) (ltb 4000 v)) e ∙ not_when 4 (m + j) (ltb 4000 v) (le-ltb 4000 v h)

module _ (m n : ℕ) (cells : List ℕ) (i j : ℕ) (v : ℤ) where
  pub cost_24_source : absent i m ≡ true → refusal_in (edit_cost i j v) (state_at m n cells) ≡ some (refused 24 0)
  unfolding refusal_in state_at draft_in
  cost_24_source e = first_24 (absent i m || absent j n) (refuse_when 5 ((i - 1) * n + j) (outside v)) (ap (λ (t : Bool). t || absent j n) e)

  pub cost_24_terminal : absent j n ≡ true → refusal_in (edit_cost i j v) (state_at m n cells) ≡ some (refused 24 0)
  unfolding refusal_in state_at draft_in
  cost_24_terminal e =
      first_24 (absent i m || absent j n) (refuse_when 5 ((i - 1) * n + j) (outside v)) (ap (λ (t : Bool). absent i m || t) e ∙ or_true (absent i m))

  neither : absent i m ≡ false → absent j n ≡ false → (absent i m || absent j n) ≡ false
  neither a b = ap (λ (t : Bool). t || absent j n) a ∙ b

  pub cost_5 : absent i m ≡ false → absent j n ≡ false → outside v ≡ true → refusal_in (edit_cost i j v) (state_at m n cells) ≡ some (refused 5 ((i - 1) * n + j))
  unfolding refusal_in state_at draft_in
  cost_5 a b h =
      past_24 (absent i m || absent j n) (refuse_when 5 ((i - 1) * n + j) (outside v)) (neither a b) ∙ when 5 ((i - 1) * n + j) (outside v) h

  pub cost_none : absent i m ≡ false → absent j n ≡ false → outside v ≡ false → refusal_in (edit_cost i j v) (state_at m n cells) ≡ none
  unfolding refusal_in state_at draft_in
  cost_none a b h =
      past_24 (absent i m || absent j n) (refuse_when 5 ((i - 1) * n + j) (outside v)) (neither a b) ∙ not_when 5 ((i - 1) * n + j) (outside v) h

module _ (m n : ℕ) (cells : List ℕ) (op : Open m n cells) (y v c : ℕ) (e : c ≡ entries_in cells) where
  pub entry_24 : c ≤ y → refusal_in (edit_entry y v) (state_at m n cells) ≡ some (refused 24 0)
  unfolding refusal_in refuse_if
  entry_24 h = ap (λ (t : Bool). refuse_if 24 (not t)) (le-ltb y (length (state_at m n cells).case.table) (omega (arith, entries_long m n cells op)))

  pub entry_none : y < c → refusal_in (edit_entry y v) (state_at m n cells) ≡ none
  unfolding refusal_in refuse_if
  entry_none h = ap (λ (t : Bool). refuse_if 24 (not t)) (lt-ltb y (length (state_at m n cells).case.table) (omega (arith, entries_long m n cells op)))
