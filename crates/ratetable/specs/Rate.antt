-- The rate of an output, 100 times its square root rounded down; a table of all rates; what is written into a lent slice. Assumes nothing.
use Rattle.std.specs.Prelude.{Result, Ok, Err, cond, List, [], ◌∷◌, ◌++◌, ℕ, zero, suc, ◌+◌, ◌*◌, ◌≤◌, ◌<◌, leb, ltb, ◌≡◌, length, get_or, drop}
use Rattle.ratetable.specs.declared.RateError.{RateError}
use Rattle.ratetable.specs.declared.RateError.TheVariants.{TooMuch, TooShort}

-- the paper's rule: r × r is at most 10,000 × y, and r is the greatest such number
pub record IsRate (y r : ℕ) : Type 0 where
  pub under : r * r ≤ 10000 * y
  pub greatest : (s : ℕ) → s * s ≤ 10000 * y → s ≤ r

-- the greatest r up to k with r × r at most 10,000 × y
unfoldable pub rate_up_to : ℕ → ℕ → ℕ
rate_up_to y zero = zero
rate_up_to y (suc k) = cond (leb (suc k * suc k) (10000 * y)) (suc k) (rate_up_to y k)

-- the one number of the rule: none above 10,000 × y has so small a square
unfoldable pub rate : ℕ → ℕ
rate y = rate_up_to y (10000 * y)

-- 4,001 numbers, for y from 0 to 4,000: each is by the rule, and they never fall
pub record RateTable (l : List ℕ) : Type 0 where
  pub long : length l ≡ 4001
  pub rule : (y : ℕ) → y ≤ 4000 → IsRate y (get_or l y 0)
  pub never_falls : (y : ℕ) → y < 4000 → get_or l y 0 ≤ get_or l (y + 1) 0

-- the rates of y, y + 1, .., k of them
unfoldable pub rates_from : ℕ → ℕ → List ℕ
rates_from y zero = []
rates_from y (suc k) = rate y ∷ rates_from (suc y) k

-- what is answered to outputs up to most and a slice of so many cells
unfoldable pub filled_of : ℕ → ℕ → Result (Unit {0}) RateError
filled_of most cells = cond (ltb 4000 most) (Err TooMuch) (cond (ltb cells (most + 1)) (Err TooShort) (Ok tt))

-- the slice afterwards: the rates of 0 to most with the later cells as they were, or all cells as they were
unfoldable pub cells_after : ℕ → List ℕ → List ℕ
cells_after most cells =
    cond (ltb 4000 most) cells (cond (ltb (length cells) (most + 1)) cells (rates_from 0 (most + 1) ++ drop (most + 1) cells))
