-- A store to one cell of a working array. Assumes nothing.
use mathlib.Core.Path.{◌≡◌}
use mathlib.Core.List.{List}
use Prim.Native.Nat.{ℕ, ◌+◌, ◌*◌, ◌≤◌, ◌<◌}
use native.Mathlib.Omega.{arith}
use lib.ListN.{length, set}
use lib.Seq.{get_or-set_same, get_or-set_other}
use Rattle.residual.specs.inner.Cells.{cells}
use Rattle.transport.proofs.CellChange.{Put}

pub cells_at : (l : List ℕ) (a b v : ℕ) → a * 64 + b < length l → cells (set l (a * 64 + b) v) a b ≡ v
cells_at l a b v h = get_or-set_same l (a * 64 + b) v 0 h

pub cells_put : (m n : ℕ) (l : List ℕ) (a b v : ℕ) → n ≤ 64 → a < m → b < n → Put m n (cells l) (cells (set l (a * 64 + b) v)) a b
cells_put m n l a b v h ha hb = record {
  source = ha;
  terminal = hb;
  off_row = λ i j k o d. get_or-set_other l (a * 64 + b) (i * 64 + j) v 0 (omega arith);
  off_col = λ i j k o d. get_or-set_other l (a * 64 + b) (i * 64 + j) v 0 (omega arith);
}
