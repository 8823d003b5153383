-- The walk back from the goal of a path: what the rows, the columns and the lanes are while it stands at node v. Source i is node i,
-- terminal j is node 32 + j. Assumes nothing.
use mathlib.Core.Path.{◌≡◌, refl, sym, ◌∙◌}
use mathlib.Core.Logic.{◌≢◌, ◌⊎◌, inl, inr}
use Prim.Native.Nat.{ℕ, ◌+◌, ◌≤◌, ◌<◌}
use native.Mathlib.Decide.{ℕ_discrete}
use native.Mathlib.Omega.{arith}
use Rattle.transport.specs.Plan.{Table, row, col}
use Rattle.transport.specs.inner.AtSplit.{Same}
use Rattle.transport.specs.inner.PathFlow.{Step, still, given, pulse, Flow, Trace}
use Rattle.transport.proofs.CellChange.{Put, row_put, row_put_off, col_put, col_put_off}

given_same : {P : Type 0} (δ : ℕ) (d : Dec P) → P → given δ d ≡ δ
unfolding given
given_same δ (yes k) e = refl
given_same δ (no k) e = absurd (k e)

given_off : {P : Type 0} (δ : ℕ) (d : Dec P) → ¬ P → given δ d ≡ 0
unfolding given
given_off δ (yes k) e = absurd (e k)
given_off δ (no k) e = refl

pub pulse_same : (δ a b : ℕ) → a ≡ b → pulse δ a b ≡ δ
unfolding pulse
pulse_same δ a b e = given_same δ (ℕ_discrete a b) e

pub pulse_off : (δ a b : ℕ) → a ≢ b → pulse δ a b ≡ 0
unfolding pulse
pulse_off δ a b e = given_off δ (ℕ_discrete a b) e

pub flow_start : (m n δ : ℕ) (x : Table) (goal : ℕ) → Flow m n δ x x goal goal
flow_start m n δ x goal = record { rows = λ i h. refl; cols = λ j h. refl }

module _ {m n δ : ℕ} {x₀ x x' : Table} {goal a b : ℕ} (small : m ≤ 32) (t : Put m n x x' a b) where
  -- from terminal b over the lane (a, b) to source a
  pub flow_ahead : Flow m n δ x₀ x goal (32 + b) → x' a b ≡ x a b + δ → Flow m n δ x₀ x' goal a
  flow_ahead f e = record {
    rows = λ i h.
        elim (ℕ_discrete a i) [
          | yes k ↦ rw (← k)
              (omega (arith, row_put t, rw (← k) at (f.rows i h), pulse_same δ a a refl, pulse_off δ (32 + b) a (omega (arith, t.source))))
          | no k ↦ omega (arith, row_put_off t i h (λ z. k (sym z)), f.rows i h, pulse_off δ a i k, pulse_off δ (32 + b) i (omega arith))
        ];
    cols = λ j h.
        elim (ℕ_discrete b j) [
          | yes k ↦ rw (← k)
              (omega (arith, col_put t, rw (← k) at (f.cols j h), pulse_same δ (32 + b) (32 + b) refl, pulse_off δ a (32 + b) (omega (arith, t.source))))
          | no k ↦ omega (arith, col_put_off t j h (λ z. k (sym z)), f.cols j h, pulse_off δ a (32 + j) (omega (arith, t.source)), pulse_off δ (32 + b) (32 + j) (omega arith))
        ];
  }

  -- from source a over the return arc of the lane (a, b) to terminal b
  pub flow_back : Flow m n δ x₀ x goal a → x a b ≡ x' a b + δ → Flow m n δ x₀ x' goal (32 + b)
  flow_back f e = record {
    rows = λ i h.
        elim (ℕ_discrete a i) [
          | yes k ↦ rw (← k)
              (omega (arith, row_put t, rw (← k) at (f.rows i h), pulse_same δ a a refl, pulse_off δ (32 + b) a (omega (arith, t.source))))
          | no k ↦ omega (arith, row_put_off t i h (λ z. k (sym z)), f.rows i h, pulse_off δ a i k, pulse_off δ (32 + b) i (omega arith))
        ];
    cols = λ j h.
        elim (ℕ_discrete b j) [
          | yes k ↦ rw (← k)
              (omega (arith, col_put t, rw (← k) at (f.cols j h), pulse_same δ (32 + b) (32 + b) refl, pulse_off δ a (32 + b) (omega (arith, t.source))))
          | no k ↦ omega (arith, col_put_off t j h (λ z. k (sym z)), f.cols j h, pulse_off δ a (32 + j) (omega (arith, t.source)), pulse_off δ (32 + b) (32 + j) (omega arith))
        ];
  }

-- the walk from plant 2, the goal, to plant 1 is at its end
pub record Shifted (m n δ : ℕ) (x₀ x : Table) : Type 0 where
  pub rows : Same 2 m (row n x₀) (row n x)
  pub cols : Same 0 n (col m x₀) (col m x)
  pub plant0 : row n x 0 ≡ row n x₀ 0 + δ
  pub plant1 : row n x₀ 1 ≡ row n x 1 + δ

pub flow_shifted : {m n δ : ℕ} {x₀ x : Table} → 2 ≤ m → Flow m n δ x₀ x 1 0 → Shifted m n δ x₀ x
flow_shifted {m} {n} {δ} {x₀} {x} two f = record {
  rows = λ i h l. omega (arith, f.rows i l, pulse_off δ 1 i (omega arith), pulse_off δ 0 i (omega arith));
  cols = λ j h l. omega (arith, f.cols j l, pulse_off δ 1 (32 + j) (omega arith), pulse_off δ 0 (32 + j) (omega arith));
  plant0 = omega (arith, f.rows 0 (omega arith), pulse_off δ 1 0 (omega arith), pulse_same δ 0 0 refl);
  plant1 = omega (arith, f.rows 1 (omega arith), pulse_off δ 0 1 (omega arith), pulse_same δ 1 1 refl);
}

pub trace_start : (m n δ : ℕ) (x : Table) (h : ℕ → ℕ) (lv : ℕ) → Trace m n δ x x h lv
trace_start m n δ x h lv = record { step = λ i j a b. still refl; passed = λ i j a b d. absurd (d refl) }

-- a lane with an end that the walk has not reached is as it was
pub trace_fresh : {m n δ : ℕ} {x₀ x : Table} {h : ℕ → ℕ} {lv : ℕ} → Trace m n δ x₀ x h lv → (i j lo : ℕ) → i < m → j < n
    → lo < lv → (h i ≡ lo) ⊎ (h (32 + j) ≡ lo) → x i j ≡ x₀ i j
trace_fresh {x₀ = x₀} {x = x} {h = h} t i j lo a b l o = go o (ℕ_discrete (x i j) (x₀ i j))
  where
    go : (h i ≡ lo) ⊎ (h (32 + j) ≡ lo) → Dec (x i j ≡ x₀ i j) → x i j ≡ x₀ i j
    go o (yes e) = e
    go (inl o) (no d) = absurd (omega (arith, t.passed i j a b d))
    go (inr o) (no d) = absurd (omega (arith, t.passed i j a b d))

-- the next lane of the walk
pub trace_step : {m n δ : ℕ} {x₀ x x' : Table} {h : ℕ → ℕ} {lv a b : ℕ} → Trace m n δ x₀ x h lv → Put m n x x' a b → (lo : ℕ)
    → lo ≤ lv → lo ≤ h a → lo ≤ h (32 + b) → x a b ≡ x₀ a b → Step δ (x a b) (x' a b) → Trace m n δ x₀ x' h lo
trace_step {m} {n} {δ = δ} {x₀ = x₀} {x = x} {x' = x'} {h = h} {a = a} {b = b} t u lo l la lb e s = record {
  step = λ i j k o. go_step i j k o (ℕ_discrete i a) (ℕ_discrete j b);
  passed = λ i j k o d. go_passed i j k o d (ℕ_discrete i a) (ℕ_discrete j b);
}
  where
    go_step : (i j : ℕ) → i < m → j < n → Dec (i ≡ a) → Dec (j ≡ b) → Step δ (x₀ i j) (x' i j)
    go_step i j k o (yes p) (yes q) = rw (p, q, ← e) s
    go_step i j k o (no p) q = rw (u.off_row i j k o p) (t.step i j k o)
    go_step i j k o (yes p) (no q) = rw (u.off_col i j k o q) (t.step i j k o)

    go_passed : (i j : ℕ) → i < m → j < n → x' i j ≢ x₀ i j → Dec (i ≡ a) → Dec (j ≡ b) → (lo ≤ h i) × (lo ≤ h (32 + j))
    go_passed i j k o d (yes p) (yes q) = rw (p, q) (la, lb)
    go_passed i j k o d (no p) q = omega (arith, t.passed i j k o (λ z. d (u.off_row i j k o p ∙ z)))
    go_passed i j k o d (yes p) (no q) = omega (arith, t.passed i j k o (λ z. d (u.off_col i j k o q ∙ z)))
