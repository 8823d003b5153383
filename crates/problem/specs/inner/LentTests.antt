-- The tests' parts, of numbers and lists as they are lent. Assumes nothing.
use Rattle.std.proofs.Math.Option.{Option}
use Rattle.std.specs.Prelude.{not, ◌||◌, List, ◌++◌, ℕ, ◌+◌, ◌-◌, ◌≤◌, ◌<◌, eqb, ltb, ℤ, pos, length, get_or}
use Rattle.problem.specs.Range.{outside}
use Rattle.problem.specs.Outcome.{Outcome, first_from, first_over, refuse_if, refuse_at, ◌or_else◌}

-- the first of the numbers above the limit, by its index
unfoldable pub first_above : ℕ → List ℕ → Option ℕ
first_above limit l = first_from (λ k. ltb limit (get_or l k 0)) 0 (length l)

-- the first unit cost out of range, by its index
unfoldable pub first_outside : List ℤ → Option ℕ
first_outside l = first_from (λ k. outside (get_or l k (pos 0))) 0 (length l)

-- no number is above the limit
abbrev pub AtMost : ℕ → List ℕ → Type 0
AtMost limit l = (k : ℕ) → k < length l → get_or l k 0 ≤ limit

-- test 4 of the supplies and the demands as they are lent
unfoldable pub amounts_refusal : List ℕ → List ℕ → Option Outcome
amounts_refusal s d = refuse_at 4 (first_from (λ p. ltb 4000 (get_or (s ++ d) (p - 1) 0)) 1 (length s + length d))

-- test 23 of the runs and the supplies as they are lent
unfoldable pub runs_refusal : ℕ → ℕ → List ℕ → Option Outcome
runs_refusal r1 r2 s = refuse_at 23 (first_over r1 r2 (get_or s 0 0) (get_or s 1 0))

-- test 26 of the ceilings as they are lent
unfoldable pub ceilings_refusal : ℕ → List ℕ → Option Outcome
ceilings_refusal lanes l =
    refuse_if 26 (not (eqb (length l) lanes)) or_else refuse_at 26 (first_from (λ p. ltb 4000 (get_or l (p - 1) 0)) 1 lanes)

-- test 9 of the entries at the splits lo to hi
unfoldable pub entries_refusal : List ℕ → ℕ → ℕ → Option Outcome
entries_refusal t lo hi =
    refuse_at 9 (first_from (λ y. ltb 1000000000 (get_or t y 0)) lo (hi - lo + 1))

-- tests 9 and 11: the entries at the splits lo to hi, and the cells of the plan's slice and the two of the stops
unfoldable pub splits_refusal : List ℕ → ℕ → ℕ → ℕ → ℕ → ℕ → ℕ → Option Outcome
splits_refusal t lo hi lanes plan splits freights =
    entries_refusal t lo hi
    or_else refuse_if 11 (ltb plan lanes || (ltb splits (hi - lo + 1) || ltb freights (hi - lo + 1)))

-- the two runs and the two lists hold amounts of a size that the planner admits
pub record Amounts (r1 r2 : ℕ) (s d : List ℕ) : Type 0 where
  pub two : 2 ≤ length s
  pub sources : length s ≤ 32
  pub terminals : length d ≤ 64
  pub supplies : AtMost 4000 s
  pub demands : AtMost 4000 d
  pub run1 : r1 ≤ get_or s 0 0
  pub run2 : r2 ≤ get_or s 1 0

-- a range of splits within the table
pub record Within (t : List ℕ) (lo hi : ℕ) : Type 0 where
  pub order : lo ≤ hi
  pub long : hi < length t
