-- The tables of a cut: how they come about, and how they follow a lane that changes. Assumes nothing.
use mathlib.Core.Path.{◌≡◌, sym, ap, ◌∙◌}
use mathlib.Core.Logic.{◌≢◌}
use mathlib.Core.Bool.{Bool, true, false, true≢false}
use mathlib.Core.List.{List}
use Prim.Native.Nat.{ℕ, ◌+◌, ◌*◌, ◌<◌}
use native.Mathlib.Decide.{ℕ_discrete}
use native.Mathlib.Omega.{arith}
use lib.ListN.{length, set, length-set}
use lib.Seq.{get_or-set_same, get_or-set_other}
use Rattle.residual.specs.inner.Cells.{cells}
use Rattle.residual.specs.inner.Network.{get}
use Rattle.cuts.specs.inner.Columns.{by_terminal, TransposeReady, Filled, Transposed}
use Rattle.cuts.specs.inner.Cut.{WeightsReady, CutReady, Priced, Ahead}
use Rattle.cuts.specs.inner.Tables.{Fresh, Roomy, Tables, Written}
use Rattle.cuts.specs.inner.Advance.{Advanced, AdvancedUnder}

-- ---- how they come about

pub roomy_start : {cost cap x to : List ℕ} → length to ≡ 2048 → Roomy cost cap x 0 to
roomy_start l = record { long = l; each = λ v h. absurd (omega arith) }

pub roomy_next : {cost cap x to : List ℕ} {k a : ℕ} → k < 2048 → Fresh (get cost k) (get cap k) (get x k) a → Roomy cost cap x k to
    → Roomy cost cap x (k + 1) (set to k a)
roomy_next {cost} {cap} {x} {to} {k} {a} h f q = record {
  long = length-set to k a ∙ q.long;
  each = λ v l. elim (ℕ_discrete v k) [
    | yes z ↦ rw (z, get_or-set_same to k a 0 (omega (arith, q.long))) f
    | no z ↦ rw (get_or-set_other to k v a 0 z) (q.each v (omega arith))
  ];
}

pub refill : {m : ℕ} {cost a to : List ℕ} → Filled m cost 0 0 to → Filled m a 0 0 to
refill q = record { long = q.long; most = q.most; each = λ i t a b. absurd (omega arith); here = λ i a. absurd (omega arith) }

pub roomy_turn : {m n : ℕ} {cost cap x ahead : List ℕ} → TransposeReady m n cost → Roomy cost cap x 2048 ahead → TransposeReady m n ahead
roomy_turn r q = record {
  sources = r.sources;
  terminals = r.terminals;
  costs = λ i j a b. (q.each (i * 64 + j) (omega (arith, r.sources, r.terminals))).most;
}

pub tables_wide : {wide : Bool} {m n : ℕ} {cost cap x ahead columns : List ℕ} → wide ≡ true → TransposeReady m n cost → length x ≡ 2048 → length ahead ≡ 2048
    → Transposed m n cost columns → Tables wide m n cost cap x ahead columns
tables_wide y r a b t = record {
  sources = r.sources;
  terminals = r.terminals;
  long = a;
  long_ahead = b;
  long_columns = t.long;
  most = λ e. absurd (true≢false (sym y ∙ e));
  columns_most = t.most;
  by_source = λ e. absurd (true≢false (sym y ∙ e));
  by_terminal_lem = λ i j h k f. omega (arith, t.each i j h k);
}

pub tables_narrow : {wide : Bool} {m n : ℕ} {cost cap x ahead columns : List ℕ} → wide ≡ false → TransposeReady m n cost → length x ≡ 2048 → Roomy cost cap x 2048 ahead
    → Transposed m n ahead columns → Tables wide m n cost cap x ahead columns
tables_narrow {m = m} {n} {cost} {cap} {x} {ahead} y r a q t = record {
  sources = r.sources;
  terminals = r.terminals;
  long = a;
  long_ahead = q.long;
  long_columns = t.long;
  most = λ e i j h k. (here i j h k).most;
  columns_most = t.most;
  by_source = λ e i j h k o. (here i j h k).room o;
  by_terminal_lem = λ i j h k f. omega (arith, t.each i j h k, (here i j h k).room (f y));
}
  where
    here : (i j : ℕ) → i < m → j < n → Fresh (cells cost i j) (cells cap i j) (cells x i j) (cells ahead i j)
    here i j h k = q.each (i * 64 + j) (omega (arith, r.sources, r.terminals))

-- ---- how they follow

-- where ceilings are wide they need not
pub tables_same : {wide : Bool} {m n : ℕ} {cost cap x x' ahead columns : List ℕ} → wide ≡ true → length x' ≡ 2048 → Tables wide m n cost cap x ahead columns
    → Tables wide m n cost cap x' ahead columns
tables_same y l t = record {
  sources = t.sources;
  terminals = t.terminals;
  long = l;
  long_ahead = t.long_ahead;
  long_columns = t.long_columns;
  most = λ e. absurd (true≢false (sym y ∙ e));
  columns_most = t.columns_most;
  by_source = λ e. absurd (true≢false (sym y ∙ e));
  by_terminal_lem = λ i j h k f. t.by_terminal_lem i j h k (λ e. absurd (true≢false (sym y ∙ e)));
}

-- the lane from source i to terminal j carries a now
module _ {wide : Bool} {m n : ℕ} {cost cap x x' ahead columns ahead' columns' : List ℕ} {i j : ℕ} (a : ℕ) (o : wide ≡ false) (hi : i < 32) (hj : j < 64)
    (t : Tables wide m n cost cap x ahead columns) (e : x' ≡ set x (i * 64 + j) a) (w : Written i j cost cap x' ahead columns ahead' columns') where
  row_same : cells ahead' i j ≡ w.cell
  row_same = rw w.row (get_or-set_same ahead (i * 64 + j) w.cell 0 (omega (arith, t.long_ahead)))

  row_other : (k l : ℕ) → k * 64 + l ≢ i * 64 + j → cells ahead' k l ≡ cells ahead k l
  row_other k l z = rw w.row (get_or-set_other ahead (i * 64 + j) (k * 64 + l) w.cell 0 z)

  column_same : by_terminal columns' i j ≡ w.cell
  column_same = rw w.column (get_or-set_same columns (j * 32 + i) w.cell 0 (omega (arith, t.long_columns)))

  column_other : (v : ℕ) → v ≢ j * 32 + i → get columns' v ≡ get columns v
  column_other v z = rw w.column (get_or-set_other columns (j * 32 + i) v w.cell 0 z)

  plan_other : (k l : ℕ) → k * 64 + l ≢ i * 64 + j → cells x' k l ≡ cells x k l
  plan_other k l z = rw e (get_or-set_other x (i * 64 + j) (k * 64 + l) a 0 z)

  pub tables_lane : Tables wide m n cost cap x' ahead' columns'
  tables_lane = record {
    sources = t.sources;
    terminals = t.terminals;
    long = ap length e ∙ length-set x (i * 64 + j) a ∙ t.long;
    long_ahead = ap length w.row ∙ length-set ahead (i * 64 + j) w.cell ∙ t.long_ahead;
    long_columns = ap length w.column ∙ length-set columns (j * 32 + i) w.cell ∙ t.long_columns;
    most = λ _ k l h g. elim (ℕ_discrete (k * 64 + l) (i * 64 + j)) [
      | yes z ↦ omega (arith, ap (λ v. get ahead' v) z, row_same, w.fresh.most)
      | no z ↦ omega (arith, row_other k l z, t.most o k l h g)
    ];
    columns_most = λ v. elim (ℕ_discrete v (j * 32 + i)) [
      | yes z ↦ omega (arith, ap (λ v. get columns' v) z, column_same, w.fresh.most)
      | no z ↦ omega (arith, column_other v z, t.columns_most v)
    ];
    by_source = λ _ k l h g r. elim (ℕ_discrete (k * 64 + l) (i * 64 + j)) [
      | yes z ↦
          omega (
            arith,
            ap (λ v. get ahead' v) z,
            row_same,
            ap (λ v. get cost v) z,
            w.fresh.room (omega (arith, r, ap (λ v. get cap v) z, ap (λ v. get x' v) z)),
          )
      | no z ↦ omega (arith, row_other k l z, t.by_source o k l h g (omega (arith, r, plan_other k l z)))
    ];
    by_terminal_lem = λ k l h g f. elim (ℕ_discrete (l * 32 + k) (j * 32 + i)) [
      | yes y ↦
          let z : k * 64 + l ≡ i * 64 + j = omega (arith, y, h, t.sources) in
          omega (
            arith,
            ap (λ v. get columns' v) y,
            column_same,
            ap (λ v. get cost v) z,
            w.fresh.room (omega (arith, f o, ap (λ v. get cap v) z, ap (λ v. get x' v) z)),
          )
      | no y ↦
          let z : k * 64 + l ≢ i * 64 + j = λ z. y (omega (arith, z, g, t.terminals)) in
          omega (arith, column_other (l * 32 + k) y, t.by_terminal_lem k l h g (λ _. omega (arith, f o, plan_other k l z)))
    ];
  }

-- ---- cuts by them

module _ {wide : Bool} {m n : ℕ} {cost cap x ahead columns : List ℕ} (t : Tables wide m n cost cap x ahead columns) where
  pub cut_wide : {p : List ℕ} → WeightsReady p → Priced m n cost → CutReady m n cost columns p
  cut_wide w q = record {
    sources = t.sources;
    terminals = t.terminals;
    costs = λ i j a b. omega (arith, q.costs i j a b);
    columns_most = t.columns_most;
    high = w.high;
    long = w.long;
  }

  pub cut_narrow : {p : List ℕ} → wide ≡ false → WeightsReady p → CutReady m n ahead columns p
  cut_narrow e w = record {
    sources = t.sources;
    terminals = t.terminals;
    costs = t.most e;
    columns_most = t.columns_most;
    high = w.high;
    long = w.long;
  }

  pub ahead_wide : wide ≡ true → Ahead m n cost cap x cost columns
  ahead_wide e = record {
    by_source = λ i j a b o. omega arith;
    by_terminal_lem = λ i j a b o. t.by_terminal_lem i j a b (λ f. absurd (true≢false (sym e ∙ f)));
  }

  pub ahead_narrow : wide ≡ false → Ahead m n cost cap x ahead columns
  ahead_narrow e = record { by_source = t.by_source e; by_terminal_lem = λ i j a b o. t.by_terminal_lem i j a b (λ f. o) }

pub advanced_under : {m n : ℕ} {cost cap table columns x s p s' p' : List ℕ} → Ahead m n cost cap x table columns
    → Advanced m n cost table columns x s p s' p' → AdvancedUnder m n cost cap x s p s' p'
advanced_under {cap = cap} h a = record { long = a.long; floor = a.floor; high = a.high; covers = a.covers; sound = a.sound cap h }
