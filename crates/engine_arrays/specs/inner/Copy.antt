-- Copies between the lent slices and the working arrays. Assumes nothing.
use Rattle.std.specs.Prelude.{◌≡◌, List, ℕ, ◌+◌, ◌*◌, ◌≤◌, ◌<◌, length, get_or}

-- each number fits 32 bits
abbrev pub Narrow : List ℕ → Type 0
Narrow l = (k : ℕ) → k < length l → get_or l k 0 < 4294967296

-- the cells of `source` stand in `after` from `at` on, the other cells are those of `before`
pub record Copied (source : List ℕ) (at : ℕ) (before after : List ℕ) : Type 0 where
  pub long : length after ≡ length before
  pub here : (k : ℕ) → k < length source → get_or after (at + k) 0 ≡ get_or source k 0
  pub below : (k : ℕ) → k < at → get_or after k 0 ≡ get_or before k 0
  pub above : (k : ℕ) → at + length source ≤ k → get_or after k 0 ≡ get_or before k 0

-- m rows of n cells, row i of one list at i × p and of the other at i × q
pub record RowsMoved (m n p q : ℕ) (source after : List ℕ) : Type 0 where
  pub cells : (i j : ℕ) → i < m → j < n → get_or after (i * q + j) 0 ≡ get_or source (i * p + j) 0

-- the cells that lie in none of m rows of n cells, row i at i × q, are those of `before`: past column n of a row, and past row m
pub record RowsKept (m n q : ℕ) (before after : List ℕ) : Type 0 where
  pub columns : (i j : ℕ) → i < m → n ≤ j → j < q → get_or after (i * q + j) 0 ≡ get_or before (i * q + j) 0
  pub rows : (k : ℕ) → m * q ≤ k → get_or after k 0 ≡ get_or before k 0

-- the supplies, one after the other, and 0 after them
pub record Supplied (supplies amounts : List ℕ) : Type 0 where
  pub long : length amounts ≡ 32
  pub sources : (i : ℕ) → i < length supplies → get_or amounts i 0 ≡ get_or supplies i 0
  pub rest : (i : ℕ) → length supplies ≤ i → get_or amounts i 0 ≡ 0

-- the demands at the terminals' nodes, and 0 at all others
pub record Wanted (demands wants : List ℕ) : Type 0 where
  pub long : length wants ≡ 96
  pub quiet : (v : ℕ) → v < 32 → get_or wants v 0 ≡ 0
  pub terminals : (j : ℕ) → j < length demands → get_or wants (32 + j) 0 ≡ get_or demands j 0
  pub rest : (v : ℕ) → 32 + length demands ≤ v → get_or wants v 0 ≡ 0
