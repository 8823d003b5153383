-- The first rates of the table, and what is answered. Assumes nothing.
use mathlib.Core.Path.{◌≡◌, refl, sym, ap, ◌∙◌}
use mathlib.Core.List.{List, ◌++◌, append-nil}
use Prim.Native.Nat.{ℕ, zero, suc, ◌+◌, ◌≤◌, ◌<◌}
use native.Mathlib.Nat.{le_of_suc-le-suc, not-suc-le-zero}
use native.Mathlib.Omega.{arith}
use lib.Seq.{get_or-take, ext_get_or, length-take-le}
use lib.ListN.{length, get_or, take, drop, drop_of_length-le}
use borrow.Author.Tests.{lt-ltb, le-ltb}
use Rattle.std.specs.Prelude.{Ok, Err}
use Rattle.ratetable.specs.Rate.{rate, rates_from, RateTable, filled_of, cells_after}
use Rattle.ratetable.specs.declared.RateError.TheVariants.{TooMuch, TooShort}
use Rattle.ratetable.proofs.Squares.{only_rate}

pub from_length : (y k : ℕ) → length (rates_from y k) ≡ k
unfolding rates_from
from_length y zero = refl
from_length y (suc k) = ap suc (from_length (suc y) k)

pub from_at : (y k j : ℕ) → j < k → get_or (rates_from y k) j 0 ≡ rate (y + j)
unfolding rates_from
from_at y zero j h = absurd (not-suc-le-zero h)
from_at y (suc k) zero h = ap rate (omega arith)
from_at y (suc k) (suc j) h = from_at (suc y) k j (le_of_suc-le-suc h) ∙ ap rate (omega arith)

-- the first numbers of a table are the first rates
pub table_takes : {l : List ℕ} → RateTable l → (k : ℕ) → k ≤ 4001 → take k l ≡ rates_from 0 k
table_takes {l} t k h =
    let long : length (take k l) ≡ k = length-take-le k l (omega (arith, t.long)) in
    ext_get_or 0 (take k l) (rates_from 0 k) (long ∙ sym (from_length 0 k))
    (λ i q. get_or-take k l i 0 (omega arith) ∙ only_rate (t.rule i (omega arith)) ∙ ap rate (let z : i ≡ 0 + i = omega arith in z) ∙ sym (from_at 0 k i (omega arith)))

-- what is answered, with the cells, in each of the three cases
module _ (most : ℕ) (cells : List ℕ) where
  pub too_much : 4000 < most → (Err TooMuch ≡ filled_of most (length cells)) × (cells ≡ cells_after most cells)
  unfolding filled_of cells_after
  too_much h = (simp (lt-ltb 4000 most h), simp (lt-ltb 4000 most h))

  pub too_short : most ≤ 4000 → length cells < most + 1 → (Err TooShort ≡ filled_of most (length cells)) × (cells ≡ cells_after most cells)
  unfolding filled_of cells_after
  too_short h l =
      let a = le-ltb 4000 most h in
      let b = lt-ltb (length cells) (most + 1) l in
      (simp (a, b), simp (a, b))

  pub filled : (after : List ℕ) → most ≤ 4000 → most + 1 ≤ length cells → after ≡ rates_from 0 (most + 1) ++ drop (most + 1) cells
      → (Ok tt ≡ filled_of most (length cells)) × (after ≡ cells_after most cells)
  unfolding filled_of cells_after
  filled after h l e =
      let a = le-ltb 4000 most h in
      let b = le-ltb (length cells) (most + 1) l in
      (simp (a, b), e ∙ simp (a, b))

-- a slice of just so many cells holds the rates alone
pub fills_whole : (most : ℕ) (cells : List ℕ) → most ≤ 4000 → length cells ≡ most + 1 → cells_after most cells ≡ rates_from 0 (most + 1)
unfolding cells_after
fills_whole most cells h e =
    rw (le-ltb 4000 most h, le-ltb (length cells) (most + 1) (omega arith), drop_of_length-le cells {i = most + 1} (omega arith)) (append-nil (rates_from 0 (most + 1)))
